use Rattle.call_history.proofs.Blocks.{answers-from_block}
use Rattle.call_history.proofs.Serving.{answers-from_serves}
use Rattle.call_history.proofs.laws.served_is_answered.Goals as goal

pub returns : goal.returns
returns c = record {
  batch = answers-from_serves;
  run = answers-from_block;
}

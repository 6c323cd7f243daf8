use Rattle.vector_memory.specs.States.{empty}
use Rattle.call_history.proofs.Replays.{replay_from-append, bounds-replay_from}
use Rattle.call_history.proofs.laws.replays_go_on.Goals as goal

pub returns : goal.returns
returns c = record {
  parts = replay_from-append;
  bounds = λ bounds history. bounds-replay_from (empty bounds) history;
}

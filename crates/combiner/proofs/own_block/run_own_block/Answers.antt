use Rattle.std.proofs.Common.{map}
use Rattle.cvl_text.specs.Answers.{answer_of}
use Rattle.combiner.proofs.Owning.{block_ended}
use Rattle.combiner.proofs.own_block.run_own_block.Goals as goal

pub returns-clause-ended : goal.returns-clause-ended
returns-clause-ended g c =
    block_ended (λ a. a.0) (λ a. map answer_of a.1.items) c.args.calls.items c.args.seat.now c.enter_block-ran.new.seat c.serve_left.new.seat.standing c.enter_block-ran.result
    c.requires.idle c.enter_block-ran.ensures.ran c.enter_block-ran.ensures.kept c.serve_left.ensures.goes_on

use Rattle.batch_flatten.specs.Joining.{IsClosed, word_at}
use Rattle.std.proofs.Common.{◌+◌}
use Rattle.batch_flatten.proofs.joining.is_leader.Given as goal

abbrev pub invariant-loop-later : goal.invariant-loop-later
invariant-loop-later l = IsClosed l.words (word_at l.words l.position) l.turns (l.position + 1) l.later

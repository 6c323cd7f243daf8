use Rattle.std.proofs.Common.{◌≡◌, length}
use Rattle.cvl_text.specs.Words.{words_of}
use Rattle.bad_lines.specs.Agreement.{nearest_of}
use Rattle.bad_lines.proofs.nearest.nearest_of.Given as goal

abbrev pub invariant-loop-other : goal.invariant-loop-other
invariant-loop-other l = nearest_of l.text l.nearest (words_of l.rest) ≡ nearest_of l.text l.fn.word (words_of l.others)

abbrev pub decreases-loop-other : goal.decreases-loop-other
decreases-loop-other l = length (words_of l.rest)

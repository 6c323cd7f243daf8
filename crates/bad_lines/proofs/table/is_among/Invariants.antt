use Rattle.std.proofs.Common.{◌≡◌, length}
use Rattle.cvl_text.specs.Words.{words_of}
use Rattle.bad_lines.specs.Forms.{is_among}
use Rattle.bad_lines.proofs.table.is_among.Given as goal

abbrev pub invariant-loop-word : goal.invariant-loop-word
invariant-loop-word l = is_among l.text (words_of l.rest) ≡ is_among l.text (words_of l.words)

abbrev pub decreases-loop-word : goal.decreases-loop-word
decreases-loop-word l = length (words_of l.rest)

use Rattle.std.proofs.Common.{◌≡◌, drop}
use Rattle.bad_lines.specs.Forms.{form_among}
use Rattle.bad_lines.proofs.table.usage_among.Given as goal

abbrev pub invariant-loop-words : goal.invariant-loop-words
invariant-loop-words l = form_among (drop l.words-index l.rows) l.word ≡ form_among l.rows l.word

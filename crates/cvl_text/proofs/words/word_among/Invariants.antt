use Rattle.std.proofs.Common.{◌≡◌, drop}
use Rattle.cvl_text.specs.Words.{beside}
use Rattle.cvl_text.proofs.words.word_among.Given as goal

abbrev pub invariant-loop-row : goal.invariant-loop-row
invariant-loop-row l = beside (drop l.row-index l.rows) l.operation ≡ beside l.rows l.operation

use Rattle.std.proofs.Common.{◌≡◌, drop}
use Rattle.cvl_text.specs.Words.{beside}
use Rattle.cvl_text.proofs.words.shaped_word.Given as goal

abbrev pub invariant-loop-row : goal.invariant-loop-row
invariant-loop-row l = beside (drop l.row-index l.shapes) l.shape ≡ beside l.shapes l.shape

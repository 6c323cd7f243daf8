use Rattle.std.proofs.Common.{◌≡◌, [], map, drop}
use Rattle.cvl_text.specs.Words.{words_of}
use Rattle.bad_lines.specs.Agreement.{nearest_in}
use Rattle.bad_lines.proofs.nearest.nearest_in.Given as goal

abbrev pub invariant-loop-words : goal.invariant-loop-words
invariant-loop-words l = nearest_in l.text l.nearest (map (λ row. words_of row.0.now) (drop l.words-index l.rows)) ≡ nearest_in l.text [] (map (λ row. words_of row.0.now) l.rows)

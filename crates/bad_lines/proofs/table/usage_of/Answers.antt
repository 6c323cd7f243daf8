use Rattle.std.proofs.Common.{refl, ◌∙◌}
use Rattle.bad_lines.proofs.CallWords.{form_among-word_of, the_table}
use Rattle.bad_lines.proofs.table.usage_of.Goals as goal

pub returns : goal.returns
unfolding the_table
returns c = c.usage_among.ensures ∙ form_among-word_of _ c.args.word.now refl

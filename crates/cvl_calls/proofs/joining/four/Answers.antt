use Rattle.std.proofs.Common.{rules, ◌∙◌}
use Rattle.cvl_calls.proofs.SameWord.{same_four}
use Rattle.cvl_calls.proofs.joining.four.Goals as goal

pub ints-requires-sync-typeof-execution-Shared : goal.ints-requires-sync-typeof-execution-Shared
ints-requires-sync-typeof-execution-Shared g c κs within = (search rules, (search rules, (search rules, (c.requires.alike, c.requires.word ∙ same_four c.in-Z.is))))

pub bools-requires-sync-typeof-execution-Shared : goal.bools-requires-sync-typeof-execution-Shared
bools-requires-sync-typeof-execution-Shared g c κs within = (search rules, (search rules, (search rules, (c.requires.alike, c.requires.word ∙ same_four c.in-B.is))))

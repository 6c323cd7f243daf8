use Rattle.std.proofs.Common.{rules, ◌∙◌}
use Rattle.cvl_calls.proofs.joining.run_group.Goals as goal

pub ints-requires-sync-typeof-execution-Shared : goal.ints-requires-sync-typeof-execution-Shared
ints-requires-sync-typeof-execution-Shared g c κs within = (search rules, (search rules, (search rules, (c.requires.alike, c.requires.word ∙ c.in-DisZ.is))))

pub bools-requires-sync-typeof-execution-Shared : goal.bools-requires-sync-typeof-execution-Shared
bools-requires-sync-typeof-execution-Shared g c κs within = (search rules, (search rules, (search rules, (c.requires.alike, c.requires.word ∙ c.in-DisB.is))))

pub ints-requires-in-Ind-sync-typeof-execution-Shared : goal.ints-requires-in-Ind-sync-typeof-execution-Shared
ints-requires-in-Ind-sync-typeof-execution-Shared g c κs within = (search rules, (search rules, (search rules, (c.requires.alike, c.requires.word ∙ c.in-Ind.is))))

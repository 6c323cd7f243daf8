use Rattle.std.proofs.Common.{rules, ◌∙◌}
use Rattle.cvl_calls.proofs.joining.over.run_group_over.Goals as goal

pub ints-requires-sync-typeof-execution-Shared : goal.ints-requires-sync-typeof-execution-Shared
ints-requires-sync-typeof-execution-Shared g c κs within = (search rules, (search rules, (c.requires.alike, c.requires.word ∙ search rules)))

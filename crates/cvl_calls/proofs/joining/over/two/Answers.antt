use Rattle.std.proofs.Common.{rules, ◌∙◌}
use Rattle.cvl_calls.proofs.SameWord.{same_two}
use Rattle.cvl_calls.proofs.joining.over.two.Goals as goal

pub ints-requires-sync-typeof-execution-Shared : goal.ints-requires-sync-typeof-execution-Shared
ints-requires-sync-typeof-execution-Shared g c κs within = (search rules, (search rules, (c.requires.alike, c.requires.word ∙ same_two (search rules))))

pub ints-requires-in-ScanSegZ-sync-typeof-execution-Shared : goal.ints-requires-in-ScanSegZ-sync-typeof-execution-Shared
ints-requires-in-ScanSegZ-sync-typeof-execution-Shared g c κs within = (search rules, (search rules, (c.requires.alike, c.requires.word ∙ same_two (search rules))))

pub ints-requires-in-DisSeg-Z-sync-typeof-execution-Shared : goal.ints-requires-in-DisSeg-Z-sync-typeof-execution-Shared
ints-requires-in-DisSeg-Z-sync-typeof-execution-Shared g c κs within = (search rules, (search rules, (c.requires.alike, c.requires.word ∙ same_two (search rules))))

pub ints-requires-in-Smp-Z-sync-typeof-execution-Shared : goal.ints-requires-in-Smp-Z-sync-typeof-execution-Shared
ints-requires-in-Smp-Z-sync-typeof-execution-Shared g c κs within = (search rules, (search rules, (c.requires.alike, c.requires.word ∙ same_two (search rules))))

pub ints-requires-in-Bck-Z-sync-typeof-execution-Shared : goal.ints-requires-in-Bck-Z-sync-typeof-execution-Shared
ints-requires-in-Bck-Z-sync-typeof-execution-Shared g c κs within = (search rules, (search rules, (c.requires.alike, c.requires.word ∙ same_two (search rules))))

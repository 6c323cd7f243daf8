use Rattle.std.proofs.Common.{rules, ◌∙◌}
use Rattle.cvl_calls.proofs.SameWord.{same_one}
use Rattle.cvl_calls.proofs.joining.one.Goals as goal

pub ints-requires-sync-typeof-execution-Shared : goal.ints-requires-sync-typeof-execution-Shared
ints-requires-sync-typeof-execution-Shared g c κs within = (search rules, (search rules, (search rules, (c.requires.alike, c.requires.word ∙ same_one (search rules)))))

pub bools-requires-sync-typeof-execution-Shared : goal.bools-requires-sync-typeof-execution-Shared
bools-requires-sync-typeof-execution-Shared g c κs within = (search rules, (search rules, (search rules, (c.requires.alike, c.requires.word ∙ same_one (search rules)))))

pub bools-requires-in-Boo-sync-typeof-execution-Shared : goal.bools-requires-in-Boo-sync-typeof-execution-Shared
bools-requires-in-Boo-sync-typeof-execution-Shared g c κs within = (search rules, (search rules, (search rules, (c.requires.alike, c.requires.word ∙ same_one (search rules)))))

pub ints-requires-in-IntOf-sync-typeof-execution-Shared : goal.ints-requires-in-IntOf-sync-typeof-execution-Shared
ints-requires-in-IntOf-sync-typeof-execution-Shared g c κs within = (search rules, (search rules, (search rules, (c.requires.alike, c.requires.word ∙ same_one (search rules)))))

pub ints-requires-in-ScanZ-sync-typeof-execution-Shared : goal.ints-requires-in-ScanZ-sync-typeof-execution-Shared
ints-requires-in-ScanZ-sync-typeof-execution-Shared g c κs within = (search rules, (search rules, (search rules, (c.requires.alike, c.requires.word ∙ same_one (search rules)))))

pub bools-requires-in-ScanB-sync-typeof-execution-Shared : goal.bools-requires-in-ScanB-sync-typeof-execution-Shared
bools-requires-in-ScanB-sync-typeof-execution-Shared g c κs within = (search rules, (search rules, (search rules, (c.requires.alike, c.requires.word ∙ same_one (search rules)))))

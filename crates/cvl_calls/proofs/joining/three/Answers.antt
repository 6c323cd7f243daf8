use Rattle.std.proofs.Common.{rules, ◌∙◌}
use Rattle.cvl_calls.proofs.SameWord.{same_three}
use Rattle.cvl_calls.proofs.joining.three.Goals as goal

pub ints-requires-sync-typeof-execution-Shared : goal.ints-requires-sync-typeof-execution-Shared
ints-requires-sync-typeof-execution-Shared g c κs within = (search rules, (search rules, (search rules, (c.requires.alike, c.requires.word ∙ same_three (search rules)))))

pub bools-requires-sync-typeof-execution-Shared : goal.bools-requires-sync-typeof-execution-Shared
bools-requires-sync-typeof-execution-Shared g c κs within = (search rules, (search rules, (search rules, (c.requires.alike, c.requires.word ∙ same_three (search rules)))))

pub ints-requires-in-IndSeg-sync-typeof-execution-Shared : goal.ints-requires-in-IndSeg-sync-typeof-execution-Shared
ints-requires-in-IndSeg-sync-typeof-execution-Shared g c κs within = (search rules, (search rules, (search rules, (c.requires.alike, c.requires.word ∙ same_three (search rules)))))

pub ints-requires-in-SmpSeg-Z-sync-typeof-execution-Shared : goal.ints-requires-in-SmpSeg-Z-sync-typeof-execution-Shared
ints-requires-in-SmpSeg-Z-sync-typeof-execution-Shared g c κs within = (search rules, (search rules, (search rules, (c.requires.alike, c.requires.word ∙ same_three (search rules)))))

pub bools-requires-in-SmpSeg-B-sync-typeof-execution-Shared : goal.bools-requires-in-SmpSeg-B-sync-typeof-execution-Shared
bools-requires-in-SmpSeg-B-sync-typeof-execution-Shared g c κs within = (search rules, (search rules, (search rules, (c.requires.alike, c.requires.word ∙ same_three (search rules)))))

pub ints-requires-in-PckSeg-Z-sync-typeof-execution-Shared : goal.ints-requires-in-PckSeg-Z-sync-typeof-execution-Shared
ints-requires-in-PckSeg-Z-sync-typeof-execution-Shared g c κs within = (search rules, (search rules, (search rules, (c.requires.alike, c.requires.word ∙ same_three (search rules)))))

pub bools-requires-in-PckSeg-B-sync-typeof-execution-Shared : goal.bools-requires-in-PckSeg-B-sync-typeof-execution-Shared
bools-requires-in-PckSeg-B-sync-typeof-execution-Shared g c κs within = (search rules, (search rules, (search rules, (c.requires.alike, c.requires.word ∙ same_three (search rules)))))

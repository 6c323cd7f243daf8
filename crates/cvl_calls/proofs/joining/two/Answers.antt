use Rattle.std.proofs.Common.{rules, ◌∙◌}
use Rattle.cvl_calls.proofs.SameWord.{same_two}
use Rattle.cvl_calls.proofs.joining.two.Goals as goal

pub ints-requires-sync-typeof-execution-Shared : goal.ints-requires-sync-typeof-execution-Shared
ints-requires-sync-typeof-execution-Shared g c κs within = (search rules, (search rules, (search rules, (c.requires.alike, c.requires.word ∙ same_two (search rules)))))

pub bools-requires-sync-typeof-execution-Shared : goal.bools-requires-sync-typeof-execution-Shared
bools-requires-sync-typeof-execution-Shared g c κs within = (search rules, (search rules, (search rules, (c.requires.alike, c.requires.word ∙ same_two (search rules)))))

pub bools-requires-in-MapB2-sync-typeof-execution-Shared : goal.bools-requires-in-MapB2-sync-typeof-execution-Shared
bools-requires-in-MapB2-sync-typeof-execution-Shared g c κs within = (search rules, (search rules, (search rules, (c.requires.alike, c.requires.word ∙ same_two (search rules)))))

pub ints-requires-in-ScanSegZ-sync-typeof-execution-Shared : goal.ints-requires-in-ScanSegZ-sync-typeof-execution-Shared
ints-requires-in-ScanSegZ-sync-typeof-execution-Shared g c κs within = (search rules, (search rules, (search rules, (c.requires.alike, c.requires.word ∙ same_two (search rules)))))

pub bools-requires-in-ScanSegB-sync-typeof-execution-Shared : goal.bools-requires-in-ScanSegB-sync-typeof-execution-Shared
bools-requires-in-ScanSegB-sync-typeof-execution-Shared g c κs within = (search rules, (search rules, (search rules, (c.requires.alike, c.requires.word ∙ same_two (search rules)))))

pub ints-requires-in-RedSegZ-sync-typeof-execution-Shared : goal.ints-requires-in-RedSegZ-sync-typeof-execution-Shared
ints-requires-in-RedSegZ-sync-typeof-execution-Shared g c κs within = (search rules, (search rules, (search rules, (c.requires.alike, c.requires.word ∙ same_two (search rules)))))

pub bools-requires-in-RedSegB-sync-typeof-execution-Shared : goal.bools-requires-in-RedSegB-sync-typeof-execution-Shared
bools-requires-in-RedSegB-sync-typeof-execution-Shared g c κs within = (search rules, (search rules, (search rules, (c.requires.alike, c.requires.word ∙ same_two (search rules)))))

pub ints-requires-in-DisSeg-Z-sync-typeof-execution-Shared : goal.ints-requires-in-DisSeg-Z-sync-typeof-execution-Shared
ints-requires-in-DisSeg-Z-sync-typeof-execution-Shared g c κs within = (search rules, (search rules, (search rules, (c.requires.alike, c.requires.word ∙ same_two (search rules)))))

pub bools-requires-in-DisSeg-B-sync-typeof-execution-Shared : goal.bools-requires-in-DisSeg-B-sync-typeof-execution-Shared
bools-requires-in-DisSeg-B-sync-typeof-execution-Shared g c κs within = (search rules, (search rules, (search rules, (c.requires.alike, c.requires.word ∙ same_two (search rules)))))

pub ints-requires-in-Smp-Z-sync-typeof-execution-Shared : goal.ints-requires-in-Smp-Z-sync-typeof-execution-Shared
ints-requires-in-Smp-Z-sync-typeof-execution-Shared g c κs within = (search rules, (search rules, (search rules, (c.requires.alike, c.requires.word ∙ same_two (search rules)))))

pub bools-requires-in-Smp-B-sync-typeof-execution-Shared : goal.bools-requires-in-Smp-B-sync-typeof-execution-Shared
bools-requires-in-Smp-B-sync-typeof-execution-Shared g c κs within = (search rules, (search rules, (search rules, (c.requires.alike, c.requires.word ∙ same_two (search rules)))))

pub ints-requires-in-Bck-Z-sync-typeof-execution-Shared : goal.ints-requires-in-Bck-Z-sync-typeof-execution-Shared
ints-requires-in-Bck-Z-sync-typeof-execution-Shared g c κs within = (search rules, (search rules, (search rules, (c.requires.alike, c.requires.word ∙ same_two (search rules)))))

pub bools-requires-in-Bck-B-sync-typeof-execution-Shared : goal.bools-requires-in-Bck-B-sync-typeof-execution-Shared
bools-requires-in-Bck-B-sync-typeof-execution-Shared g c κs within = (search rules, (search rules, (search rules, (c.requires.alike, c.requires.word ∙ same_two (search rules)))))

pub ints-requires-in-Pck-Z-sync-typeof-execution-Shared : goal.ints-requires-in-Pck-Z-sync-typeof-execution-Shared
ints-requires-in-Pck-Z-sync-typeof-execution-Shared g c κs within = (search rules, (search rules, (search rules, (c.requires.alike, c.requires.word ∙ same_two (search rules)))))

pub bools-requires-in-Pck-B-sync-typeof-execution-Shared : goal.bools-requires-in-Pck-B-sync-typeof-execution-Shared
bools-requires-in-Pck-B-sync-typeof-execution-Shared g c κs within = (search rules, (search rules, (search rules, (c.requires.alike, c.requires.word ∙ same_two (search rules)))))

pub ints-requires-in-Pkl-sync-typeof-execution-Shared : goal.ints-requires-in-Pkl-sync-typeof-execution-Shared
ints-requires-in-Pkl-sync-typeof-execution-Shared g c κs within = (search rules, (search rules, (search rules, (c.requires.alike, c.requires.word ∙ same_two (search rules)))))

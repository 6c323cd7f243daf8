use Rattle.std.specs.Global.{Box}
use Rattle.std.proofs.Common.{Option, Some, None, IfNone}
use Rattle.request_slots.specs.declared.desk.Desk.{Desk}
use Rattle.request_slots.specs.Standing.{Standing}
use Rattle.request_slots.specs.Changes.{FindsAnother, MeetsAnother}
use Rattle.request_slots.proofs.slots.Slots.close.Goals as goal

-- who was met is another caller of the machine
met_is_another : (c d : Standing) (o : Option (Box Desk)) → IfNone o (MeetsAnother c d) → IfNone o (FindsAnother c)
met_is_another c d None m = (m.0, m.1)
met_is_another c d (Some desk) m = tt

pub returns-clause-found : goal.returns-clause-found
returns-clause-found c = met_is_another _ _ c.step_lock.result c.step_lock.ensures.lost

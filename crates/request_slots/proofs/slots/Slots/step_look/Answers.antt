use Rattle.request_slots.proofs.Looking.{looks}
use Rattle.request_slots.proofs.Sitting.{sits_at, first_word}
use Rattle.request_slots.proofs.slots.Slots.step_look.Goals as goal

pub load-requires : goal.load-requires
load-requires c = let seated = c.seat.invariant in
    let same = sits_at seated c.seat.view_is c.requires.place c.self.view_is in
    (same, first_word _ _ _ same seated.wide seated.inside, looks _ _ _ c.seat.inside.seat.me seated.is_caller)

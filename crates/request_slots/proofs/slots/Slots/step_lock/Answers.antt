use Rattle.std.proofs.Common.{rules, arith, ◌∙◌, ap}
use Rattle.request_slots.specs.declared.desk.Slot.TheVariants.{Kept}
use Rattle.request_slots.specs.declared.known.Known.{Known}
use Rattle.request_slots.proofs.Hands.{front_is}
use Rattle.request_slots.proofs.Locking.{locks}
use Rattle.request_slots.proofs.Sitting.{sits_at, first_word}
use Rattle.request_slots.proofs.slots.Slots.step_lock.Goals as goal

pub compare_exchange-requires : goal.compare_exchange-requires
compare_exchange-requires c = let seated = c.seat.invariant in
    let same = sits_at seated c.seat.view_is c.requires.place c.self.view_is in
    let two = first_word _ _ _ same seated.wide seated.inside in
    (same, omega arith, locks _ _ _ _ c.seat.inside.seat.me seated.is_caller seated.number_is (ap (λ (z : Known). z.pass) c.seat.view_is ∙ c.requires.no_desk))

pub exchange-requires : goal.exchange-requires
exchange-requires c =
    let t = c.compare_exchange.ensures.2.0 c.if-compare_exchange-ne-FREE.false in
    (search rules, (Kept t.0, front_is _ _ _ t.4))

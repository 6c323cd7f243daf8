use Rattle.std.proofs.Common.{rules, arith, ◌≡◌, refl, sym, ap, subst}
use Rattle.request_slots.specs.declared.known.View.{View}
use Rattle.request_slots.specs.declared.known.View.TheVariants.{Bare, Caller}
use Rattle.request_slots.specs.Views.{known_of, seen_in}
use Rattle.request_slots.proofs.Looking.{shows, sees, adopts}
use Rattle.request_slots.proofs.Sitting.{sits_at, first_word}
use Rattle.request_slots.proofs.slots.Slots.step_meet.Goals as goal

pub split_seat-bare-requires : goal.split_seat-bare-requires
split_seat-bare-requires c = let seated = c.other.invariant in
    let same = sits_at seated c.other.view_is c.requires.place.1 c.self.view_is in
    let two = first_word _ _ _ same seated.wide seated.inside in
    (same, omega arith, shows _ _ _ seated.is_caller)

pub join_seat-requires : goal.join_seat-requires
join_seat-requires c = let seated = c.seat.invariant in
    let same = sits_at seated c.seat.view_is c.requires.place.0 c.self.view_is in
    let two = first_word _ _ _ same seated.wide seated.inside in
    let bare = ap (λ m. m.0) c.split_seat-bare.ensures.4 in (
      same,
      search rules,
      ap (λ m. m.1) c.split_seat-bare.ensures.4,
      omega arith,
      sees _ _ _ _ _ seated.is_caller (subst (λ (z : View). z ≡ Bare (seen_in z)) (sym bare) refl),
    )

pub load-requires : goal.load-requires
load-requires c = let seated = c.seat.invariant in
    let same = sits_at seated c.seat.view_is c.requires.place.0 c.self.view_is in
    (search rules, first_word _ _ _ same seated.wide seated.inside, adopts _ _ _ _ (subst (λ (z : View). z ≡ Caller (known_of z)) (sym (ap (λ m. m.0) c.join_seat.ensures.2)) refl))

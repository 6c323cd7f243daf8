use Rattle.std.proofs.Common.{rules, not, ◌≡◌, ℕ, ◌+◌, ◌∷◌, [], ◌++◌, ◌∙◌, sym, ap, subst}
use Rattle.atomic_table.specs.Seated.{TableId}
use Rattle.atomic_table.specs.Table.{rest, turned}
use Rattle.call_history.specs.Fits.{fate_of}
use Rattle.request_slots.specs.declared.desk.Slot.TheVariants.{Nothing, Told}
use Rattle.request_slots.specs.declared.known.Known.{Known}
use Rattle.request_slots.specs.declared.known.Phase.{Phase}
use Rattle.request_slots.specs.Standing.{callers_of, left_in, IsLeft, FrontHolds}
use Rattle.request_slots.specs.Views.{with_standing, known_of}
use Rattle.request_slots.proofs.Asking.{collects}
use Rattle.request_slots.proofs.Hands.{front_is, hand_collects}
use Rattle.request_slots.proofs.Sitting.{sits_at, caller_word, reseated, collected_keeps}
use Rattle.request_slots.proofs.slots.Slots.step_collect.Goals as goal

pub compare_exchange-requires : goal.compare_exchange-requires
compare_exchange-requires c = let seated = c.seat.invariant in
    let same = sits_at seated c.seat.view_is c.requires.place c.self.view_is in
    let known : known_of c.seat.inside.seat.me.0 ≡ c.args.seat.now = c.seat.view_is in
    rw c.word_at.ensures (same, caller_word _ _ _ same seated.wide seated.inside, collects _ _ _ _ c.seat.inside.seat.me seated.is_caller seated.number_is (subst (λ (z : Known). IsLeft z.standing) (sym known) c.requires.left))

pub exchange-requires : goal.exchange-requires
exchange-requires c = let seated = c.seat.invariant in
    let t = c.compare_exchange.ensures.2.0 c.if-compare_exchange-ne-DONE.false in
    (search rules, (Told t.0, rw c.slot_at.ensures (front_is _ _ _ (t.3 ∙ ap (λ (z : ℕ). (z + 1, Told t.0) ∷ c.seat.inside.seat.me.1) seated.number_is))))

pub invariant_of-seat-2 : goal.invariant_of-seat-2
invariant_of-seat-2 c = let seated = c.seat.invariant in
    let known : known_of c.seat.inside.seat.me.0 ≡ c.args.seat.now = c.seat.view_is in
    let k : Known = known_of c.seat.inside.seat.me.0 in
    let t = c.compare_exchange.ensures.2.0 c.if-compare_exchange-ne-DONE.false in
    let kept = collected_keeps k.standing (fate_of t.0) t.1 t.4 in
    let same = sits_at seated c.seat.view_is c.requires.place c.self.view_is in
    let put = rw c.slot_at.ensures at c.exchange.ensures.3 in
    let now = c.turn.ensures.2 in
    reseated c.seat.inside.seat _ _ _ _ _ _ (with_standing k t.1) seated (search rules) (ap (λ m. m.0) now ∙ (ap (λ m. m.0) put ∙ t.2))
    (ap (λ m. m.1) now ∙ (ap (λ m. turned m.1) put ∙ (ap (λ h. rest h ++ (c.seat.inside.number + 1, Nothing) ∷ []) t.3 ∙ (ap (λ h. h ++ (c.seat.inside.number + 1, Nothing) ∷ []) seated.hand_is
    ∙ hand_collects c.seat.inside.taken k t.1 c.seat.inside.number seated.number_is (subst (λ (z : Known). IsLeft z.standing) (sym known) c.requires.left) kept.0 kept.1))))
    seated.marked kept.2 kept.1 seated.orderly (ap (λ (p : Phase). not (left_in p)) (sym kept.0)) (subst (λ (z : TableId). FrontHolds (callers_of z) t.1) (sym same) t.5)

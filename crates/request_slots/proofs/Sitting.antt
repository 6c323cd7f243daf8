-- The seat of a caller after a step, and the words that it may step on.
-- `reseated` gives the invariant of a seat after a step from what changed, `all_new_at` that the seats of a new table are of new callers.
use Rattle.std.proofs.Common.{◌≡◌, ℕ, zero, suc, ◌+◌, ◌*◌, ◌<◌, ◌≤◌, Bool, not, List, [], ◌∷◌, length, map, refl, sym, ap, ◌∙◌, subst, arith}
use Rattle.std.specs.List.{All}
use Rattle.std.proofs.lemmas.List.Elements.{All-append}
use mathlib.Core.List.{map-append}
use Rattle.atomic_table.specs.Seated.{TableId}
use Rattle.atomic_table.specs.declared.shared.Seat as token
use Rattle.vector_memory.specs.declared.bounds.Bounds.{Bounds}
use Rattle.call_history.specs.Callers.{caller_limit}
use Rattle.call_history.specs.Fits.{Fate, StandsAt, CameBack}
use Rattle.request_slots.specs.Stages.{length_word, own_word}
use Rattle.request_slots.specs.declared.desk.Slot.{Slot}
use Rattle.request_slots.specs.declared.known.Known.{Known}
use Rattle.request_slots.specs.declared.known.Phase.TheVariants.{Idle}
use Rattle.request_slots.specs.declared.known.View.{View}
use Rattle.request_slots.specs.declared.known.View.TheVariants.{Caller}
use Rattle.request_slots.specs.Standing.{Machine, callers_of, Standing, left_in, FrontHolds, newcomer, newcomers}
use Rattle.request_slots.specs.Changes.{Collected}
use Rattle.request_slots.specs.Views.{untold, known_of, pass_in}
use Rattle.request_slots.specs.Seating.{hand_of, IsMarked, IsOrderly, IsSeated, IsNewSeatAt}

pub caller_word : (z y : TableId) (k : ℕ) → z ≡ y → z.words ≡ 8 * z.slots + 8 → k + 1 < z.slots → own_word k < y.words
caller_word z y k same wide inside = subst (λ (t : TableId). own_word k < t.words) same (omega arith)

pub first_word : (z y : TableId) (k : ℕ) → z ≡ y → z.words ≡ 8 * z.slots + 8 → k + 1 < z.slots → length_word < y.words
first_word z y k same wide inside = subst (λ (t : TableId). length_word < t.words) same (omega arith)

-- a seat is at the table that its caller's machine names
pub sits_at : {seat : token.Seat Slot View} {number : ℕ} {idle : Bool} {marks : List Bool} {c : Known} {y z : TableId} → IsSeated seat number idle marks → known_of seat.me.0 ≡ c → c.standing.machine ≡ z → y ≡ z → seat.table_id ≡ y
sits_at seated view_is place_is table_is = sym seated.machine_is ∙ (ap (λ (k : Known). k.standing.machine) view_is ∙ (place_is ∙ sym table_is))

-- another caller of the table is below the limit
pub below_limit : {seat : token.Seat Slot View} {number : ℕ} {idle : Bool} {marks : List Bool} {z : TableId} (i : ℕ) → IsSeated seat number idle marks → seat.table_id ≡ z → i + 1 < z.slots → (i < caller_limit) × (i < length marks)
below_limit i seated same near = let slots = ap (λ (t : TableId). t.slots) same in let few = seated.few in let long = seated.marked.long in (omega arith, omega arith)

-- the caller sits at the same table after a step
pub reseated : (old new : token.Seat Slot View) (number : ℕ) (idle idle' : Bool) (marks marks' : List Bool) (c : Known) → IsSeated old number idle marks → new.table_id ≡ old.table_id → new.me.0 ≡ Caller c → new.me.1 ≡ hand_of marks' c → IsMarked marks' (pass_in c).taken
    → c.standing.machine ≡ (known_of old.me.0).standing.machine → c.standing.number ≡ (known_of old.me.0).standing.number → IsOrderly (pass_in c) → idle' ≡ not (left_in c.standing.phase)
    → FrontHolds (callers_of old.table_id) c.standing → IsSeated new number idle' marks'
reseated old new number idle idle' marks marks' c seated same is hand marked machine_is number_is orderly idle_is front = record {
  is_caller = subst (λ (v : View). v ≡ Caller (known_of v)) (sym is) refl;
  machine_is = ap (λ (v : View). (known_of v).standing.machine) is ∙ (machine_is ∙ (seated.machine_is ∙ sym same));
  number_is = ap (λ (v : View). (known_of v).standing.number) is ∙ (number_is ∙ seated.number_is);
  idle_is = idle_is ∙ ap (λ (v : View). not (left_in (known_of v).standing.phase)) (sym is);
  hand_is = hand ∙ ap (λ (v : View). hand_of marks' (known_of v)) (sym is);
  marked = subst (λ (v : View). IsMarked marks' (pass_in (known_of v)).taken) (sym is) marked;
  wide = subst (λ (t : TableId). t.words ≡ 8 * t.slots + 8) (sym same) seated.wide;
  inside = subst (λ (t : TableId). number + 1 < t.slots) (sym same) seated.inside;
  few = subst (λ (t : TableId). t.slots ≤ 65) (sym same) seated.few;
  orderly = subst (λ (v : View). IsOrderly (pass_in (known_of v))) (sym is) orderly;
  front = subst (λ (z : TableId × View). FrontHolds (callers_of z.0) (known_of z.1).standing) (λ i. (sym same i, sym is i)) front;
}

-- what a caller keeps as it takes its outcome
pub collected_keeps : (c : Standing) (fate : Fate) (d : Standing) → Collected c fate d → (d.phase ≡ Idle) × (d.number ≡ c.number) × (d.machine ≡ c.machine)
collected_keeps c (StandsAt place replies) d h = let e = h.5 in (ap (λ (z : Standing). z.phase) e, ap (λ (z : Standing). z.number) e, ap (λ (z : Standing). z.machine) e)
collected_keeps c (CameBack back) d h = let e = h.1 in (ap (λ (z : Standing). z.phase) e, ap (λ (z : Standing). z.number) e, ap (λ (z : Standing). z.machine) e)

all_new : (m : Machine) (bounds : Bounds) (n : ℕ) → All (IsNewSeatAt m) (map untold (newcomers m bounds n))
all_new m bounds zero = λ k d lt. absurd (omega arith)
all_new m bounds (suc n) = subst (All (IsNewSeatAt m)) (sym (map-append untold (newcomers m bounds n) (newcomer m bounds n ∷ [])))
    (All-append (IsNewSeatAt m) (map untold (newcomers m bounds n)) (untold (newcomer m bounds n) ∷ []) (all_new m bounds n) last)
  where
    last : All (IsNewSeatAt m) (untold (newcomer m bounds n) ∷ [])
    last zero d lt = (refl, refl, refl, λ _. (refl, refl))
    last (suc k) d lt = absurd (omega arith)

-- the seats of a new table are of new callers
pub all_new_at : (m : Machine) (bounds : Bounds) (n : ℕ) (seats : List Known) → seats ≡ map untold (newcomers m bounds n) → All (IsNewSeatAt m) seats
all_new_at m bounds n seats e = subst (All (IsNewSeatAt m)) (sym e) (all_new m bounds n)

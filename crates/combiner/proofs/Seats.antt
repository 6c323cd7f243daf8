-- The callers of a new machine.
-- `new_seats` says that the seats of a new table are new, `shown_are` what they show, and `newcomers_new` what is known of them.
use Rattle.std.proofs.Common.{◌≡◌, ℕ, zero, suc, ◌+◌, ◌≤◌, List, [], ◌∷◌, ◌++◌, map, append_assoc, refl, sym, ap, ◌∙◌, subst, arith}
use Rattle.std.specs.Prelude.{All}
use Rattle.std.proofs.lemmas.List.Elements.{All-append}
use mathlib.Core.List.{map-append}
use Rattle.vector_memory.specs.declared.bounds.Bounds.{Bounds}
use Rattle.request_slots.specs.declared.known.Known.{Known}
use Rattle.request_slots.specs.Views.{untold}
use Rattle.combiner.specs.Standing.{Machine, Standing, standing, newcomer, newcomers, IsNewAt, IsNewSeat}

new_each : (m : Machine) (bounds : Bounds) (n : ℕ) → n + 1 ≤ m.slots → All IsNewSeat (map untold (newcomers m bounds n))
new_each m bounds zero few = λ k d lt. absurd (omega arith)
new_each m bounds (suc n) few = subst (All IsNewSeat) (sym (map-append untold (newcomers m bounds n) (newcomer m bounds n ∷ [])))
    (All-append IsNewSeat (map untold (newcomers m bounds n)) (untold (newcomer m bounds n) ∷ []) (new_each m bounds n (omega arith)) last)
  where
    last : All IsNewSeat (untold (newcomer m bounds n) ∷ [])
    last zero d lt = record { idle = refl; resting = record { no_desk = refl; inside = omega arith; rests = λ _. (refl, refl); no_strangers = λ _ _. refl; whole = tt } }
    last (suc k) d lt = absurd (omega arith)

pub new_seats : (m : Machine) (bounds : Bounds) (n : ℕ) (seats : List Known) → n + 1 ≤ m.slots → seats ≡ map untold (newcomers m bounds n) → All IsNewSeat seats
new_seats m bounds n seats few is = subst (All IsNewSeat) (sym is) (new_each m bounds n few)

pub shown_are : (cs : List Standing) → map standing (map untold cs) ≡ cs
shown_are [] = refl
shown_are (c ∷ cs) = ap (λ l. c ∷ l) (shown_are cs)

new_at : (m : Machine) (bounds : Bounds) (n : ℕ) → All (IsNewAt m bounds) (newcomers m bounds n)
new_at m bounds zero = λ k d lt. absurd (omega arith)
new_at m bounds (suc n) = All-append (IsNewAt m bounds) (newcomers m bounds n) (newcomer m bounds n ∷ []) (new_at m bounds n) last
  where
    last : All (IsNewAt m bounds) (newcomer m bounds n ∷ [])
    last zero d lt = record { machine_is = refl; bounds_is = refl; idle = refl; front_is = refl; record_is = refl; rests = λ _. (refl, refl) }
    last (suc k) d lt = absurd (omega arith)

pub newcomers_new : (m : Machine) (bounds : Bounds) (n : ℕ) (callers : List Standing) → callers ≡ newcomers m bounds n → All (IsNewAt m bounds) callers
newcomers_new m bounds n callers is = subst (All (IsNewAt m bounds)) (sym is) (new_at m bounds n)

-- one more seat is given to a caller
pub given_next : (given : List Standing) (seat : Known) (before rest : List Known) (all : List Standing) (c : Standing) → before ≡ seat ∷ rest → c ≡ standing seat → given ++ map standing before ≡ all → All IsNewSeat before
    → ((given ++ c ∷ []) ++ map standing rest ≡ all) × All IsNewSeat rest
given_next given seat before rest all c e is was new = (
  append_assoc given (c ∷ []) (map standing rest) ∙ (ap (λ d. given ++ d ∷ map standing rest) is ∙ (ap (λ l. given ++ map standing l) (sym e) ∙ was)),
  λ k d lt. let all_new : All IsNewSeat (seat ∷ rest) = subst (All IsNewSeat) e new in all_new (suc k) d (omega arith),
)

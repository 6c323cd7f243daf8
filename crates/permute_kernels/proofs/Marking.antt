-- Places that are marked as an index is read: `Marks`, `marked_more` and `number_marked` (one more place), `all_marked`,
-- `marked_twice` (a place that was marked before).
use Rattle.std.proofs.Common.{◌≡◌, ℕ, ◌+◌, ◌<◌, ◌≤◌, List, length, take, set, sym, ap, ◌∙◌, get_or, ℤ, pos, Bool, true, false, cond, arith, get_or-set_same, get_or-set_other, inl, inr}
use Rattle.std.specs.Ordering.{int_eq}
use Rattle.std.proofs.lemmas.Bool.{cases_eq}
use Rattle.std.proofs.lemmas.Bool.Decides.{nat_tests}
use Rattle.std.proofs.lemmas.List.{take_all}
use Rattle.std.proofs.lemmas.List.Sums.{count_by-le-length, count_by_more_no, sum_by-set}
use Rattle.scan_kernels.specs.Indices.{HoldsEachPlaceOnce, times_held}
use Rattle.scan_kernels.specs.Packed.{number_set}
use Rattle.scan_kernels.proofs.Counting.{all_counted, held_more, held_twice}

-- a place is marked where it stands among the first i indices, and stands there once
abbrev pub Marks : List ℤ → ℕ → List Bool → Type 0
Marks index i seen = (p : ℕ) → p < length index → times_held p (take i index) ≡ cond (get_or seen p false) 1 0

other_place : (p q : ℕ) → (q ≡ p → ⊥) → int_eq (pos p) (pos q) ≡ false
other_place p q h = grind (arith, nat_tests)

module _ (index : List ℤ) (seen : List Bool) (i p : ℕ) where
  pub marked_more : i < length index → get_or index i (pos 0) ≡ pos p → p < length index → length seen ≡ length index → get_or seen p false ≡ false → Marks index i seen → Marks index (i + 1) (set seen p true)
  marked_more lt here within long free marks q place =
      elim (cases_eq q p) [
        | inl e ↦
            let now : get_or (set seen p true) q false ≡ true = ap (λ k. get_or (set seen p true) k false) e ∙ get_or-set_same seen p true false (omega arith) in
            let before : times_held p (take i index) ≡ 0 = marks p within ∙ ap {B = ℕ} (λ b. cond b 1 0) free in
            let more = held_more index p i lt here in
            let one : times_held p (take (i + 1) index) ≡ 1 = omega arith in
            ap (λ k. times_held k (take (i + 1) index)) e ∙ one ∙ sym (ap {B = ℕ} (λ b. cond b 1 0) now)
        | inr ne ↦
            let other : int_eq (get_or index i (pos 0)) (pos q) ≡ false = ap (λ z. int_eq z (pos q)) here ∙ other_place p q ne in
            count_by_more_no (λ z. int_eq z (pos q)) index i (pos 0) lt other
            ∙ marks q place
            ∙ sym (ap {B = ℕ} (λ b. cond b 1 0) (get_or-set_other seen p q true false ne))
      ]

  pub number_marked : p < length seen → get_or seen p false ≡ false → number_set (set seen p true) ≡ number_set seen + 1
  number_marked lt free =
      let more = sum_by-set (λ b. cond b 1 0) seen p true false lt in
      let nothing = ap {B = ℕ} (λ b. cond b 1 0) free in
      omega arith

  -- a place that is marked and stands in the index once more stands there twice
  pub marked_twice : i < length index → get_or index i (pos 0) ≡ pos p → p < length index → get_or seen p false ≡ true → Marks index i seen → HoldsEachPlaceOnce index → ⊥
  marked_twice lt here within taken marks once =
      let met : times_held p (take i index) ≡ 1 = marks p within ∙ ap {B = ℕ} (λ b. cond b 1 0) taken in
      let twice = held_twice index p i lt here (omega arith) in
      let one = once p within in
      absurd (omega arith)

pub all_marked : (index : List ℤ) (seen : List Bool) (i : ℕ) → length index ≤ i → length seen ≡ length index → number_set seen ≡ i → Marks index i seen → HoldsEachPlaceOnce index
all_marked index seen i past long number marks p within =
    let few = count_by-le-length (λ b. b) seen in
    let full = all_counted (λ b. b) seen (omega arith) p false (omega arith) in
    sym (ap (times_held p) (take_all i index past)) ∙ marks p within ∙ ap {B = ℕ} (λ b. cond b 1 0) full

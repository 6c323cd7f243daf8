-- What an index sends to each place: `permuted_is` (a list that has each item at its place is `permuted`, and no other
-- list has them), `segmented_permute_is` (segment by segment), `sent_one` and `sent_item` (what a place gets).
use Rattle.std.proofs.Common.{◌≡◌, ℕ, zero, suc, ◌+◌, ◌<◌, ◌≤◌, List, [], ◌∷◌, ◌++◌, length, take, drop, map, refl, sym, ap, ◌∙◌, get_or, sum, ℤ, pos, Bool, true, false, cond, Some, count_by, arith, inl, inr, subst}
use Rattle.std.specs.List.{flat_map, range_with_len, slice_get}
use Rattle.std.specs.Ordering.{int_eq}
use Rattle.std.proofs.lemmas.Bool.{cases_Bool}
use Rattle.std.proofs.lemmas.Bool.Decides.{Decides-int_eq}
use Rattle.std.proofs.lemmas.List.{append-nil, get_or-map, length-drop, length-map, length-take, map-id, nil_from_length, take-append-drop, take_all, take_more}
use Rattle.std.proofs.lemmas.List.Concat.{flat_map-append}
use Rattle.std.proofs.lemmas.List.Elements.{All-head, All-tail}
use Rattle.std.proofs.lemmas.List.FromFn.{map-range_with_len_more}
use Rattle.std.proofs.lemmas.List.Sums.{get_or-le-sum_by, sum_by-cons}
use Rattle.std.proofs.lemmas.Option.{get_or_from_slice_get, same_Some, slice_get_cases, slice_get_within}
use Rattle.segment_desc.specs.Cut.{cut}
use Rattle.scan_kernels.specs.Indices.{HoldsEachPlaceOnce, PermuteSegments, times_held}
use Rattle.scan_kernels.specs.Packed.{number_set, packed}
use Rattle.scan_kernels.specs.Permuted.{IsPermuted, IsPermutedBySegments, permuted, segmented_permute, sent_to}

module _ {X : Type 0} where
  -- nothing is kept where no flag is set
  packed_none : (flags : List Bool) (xs : List X) → number_set flags ≡ 0 → packed flags xs ≡ []
  packed_none [] xs none = refl
  packed_none (true ∷ flags) xs none = absurd (omega (arith, sum_by-cons {X = Bool} (λ b. cond b 1 0) true flags))
  packed_none (false ∷ flags) [] none = refl
  packed_none (false ∷ flags) (x ∷ xs) none = packed_none flags xs (omega (arith, sum_by-cons {X = Bool} (λ b. cond b 1 0) false flags))

  -- one item is kept where one flag is set
  packed_one : (flags : List Bool) (xs : List X) (i : ℕ) (x : X) → length flags ≡ length xs → number_set flags ≡ 1 → get_or flags i false ≡ true → slice_get xs i ≡ Some x → packed flags xs ≡ x ∷ []
  packed_one [] xs i x same one set here = cc
  packed_one (b ∷ flags) [] i x same one set here = absurd (omega arith)
  packed_one (true ∷ flags) (y ∷ xs) zero x same one set here =
      let none = packed_none flags xs (omega (arith, sum_by-cons {X = Bool} (λ b. cond b 1 0) true flags)) in
      ap (λ l. y ∷ l) none ∙ ap (λ w. w ∷ []) (same_Some y x here)
  packed_one (true ∷ flags) (y ∷ xs) (suc i) x same one set here =
      let within = slice_get_within xs i x here in
      let more = get_or-le-sum_by {X = Bool} (λ b. cond b 1 0) flags i false (omega arith) in
      let counted = ap {B = ℕ} (λ b. cond b 1 0) set in
      absurd (omega (arith, sum_by-cons {X = Bool} (λ b. cond b 1 0) true flags))
  packed_one (false ∷ flags) (y ∷ xs) zero x same one set here = cc
  packed_one (false ∷ flags) (y ∷ xs) (suc i) x same one set here =
      packed_one flags xs i x (omega arith) (omega (arith, sum_by-cons {X = Bool} (λ b. cond b 1 0) false flags)) set here

number_of_map : (test : ℤ → Bool) (zs : List ℤ) → number_set (map test zs) ≡ count_by test zs
number_of_map test [] = refl
number_of_map test (z ∷ zs) =
    let flags = sum_by-cons {X = Bool} (λ b. cond b 1 0) (test z) (map test zs) in
    let items = sum_by-cons (λ y. cond (test y) 1 0) z zs in
    omega (arith, number_of_map test zs)

-- a place that stands in an index stands somewhere
held_somewhere : (p : ℕ) (zs : List ℤ) → 1 ≤ times_held p zs → (i : ℕ) × (slice_get zs i ≡ Some (pos p))
held_somewhere p [] h = absurd (omega arith)
held_somewhere p (z ∷ zs) h =
    let parts = sum_by-cons (λ y. cond (int_eq y (pos p)) 1 0) z zs in
    elim (cases_Bool (int_eq z (pos p))) [
      | inl e ↦ (0, ap Some ((Decides-int_eq z (pos p)).0 e))
      | inr e ↦
          let rest = held_somewhere p zs (omega (arith, ap {B = ℕ} (λ b. cond b 1 0) e)) in
          (suc rest.0, rest.1)
    ]

module _ {X : Type 0} (index : List ℤ) (xs : List X) (once : HoldsEachPlaceOnce index) (same : length index ≡ length xs) where
  -- what is sent to the place that the index holds at i is item i
  pub sent_item : (i p : ℕ) (x : X) → slice_get index i ≡ Some (pos p) → p < length index → slice_get xs i ≡ Some x → sent_to index xs p ≡ x ∷ []
  sent_item i p x held lt here =
      let test : ℤ → Bool = λ z. int_eq z (pos p) in
      let within = slice_get_within index i (pos p) held in
      let set : get_or (map test index) i false ≡ true =
      get_or-map test index i (pos 0) false within ∙ ap test (get_or_from_slice_get index i (pos p) (pos 0) held) ∙ (Decides-int_eq (pos p) (pos p)).1 refl in
      packed_one (map test index) xs i x (length-map index test ∙ same) (number_of_map test index ∙ once p lt) set here

  -- one item is sent to each place
  pub sent_one : (p : ℕ) → p < length index → (i : ℕ) × (x : X) × (slice_get index i ≡ Some (pos p)) × (slice_get xs i ≡ Some x) × (sent_to index xs p ≡ x ∷ [])
  sent_one p lt =
      let one = once p lt in
      let held = held_somewhere p index (omega arith) in
      let within = slice_get_within index held.0 (pos p) held.1 in
      elim (slice_get_cases xs held.0).1 [
        | inl q ↦ (held.0, q.0, held.1, q.2, sent_item held.0 p q.0 held.1 lt q.2)
        | inr q ↦ absurd (omega (arith, q.0))
      ]

range_push : (k : ℕ) → range_with_len 0 (k + 1) ≡ range_with_len 0 k ++ k ∷ []
range_push k = sym (map-id (range_with_len 0 (k + 1))) ∙ map-range_with_len_more (λ n. n) 0 k k (omega arith) ∙ ap (λ l. l ++ k ∷ []) (map-id (range_with_len 0 k))

pub flat_map-range_push : {X : Type 0} (f : ℕ → List X) (k : ℕ) → flat_map f (range_with_len 0 (k + 1)) ≡ flat_map f (range_with_len 0 k) ++ f k
flat_map-range_push f k =
    ap (flat_map f) (range_push k) ∙ flat_map-append f (range_with_len 0 k) (k ∷ []) ∙ ap (λ l. flat_map f (range_with_len 0 k) ++ l) (append-nil (f k))

module _ {X : Type 0} (index : List ℤ) (xs ys : List X) (once : HoldsEachPlaceOnce index) (same : length index ≡ length xs) (moved : IsPermuted index xs ys) where
  sent_front : (k : ℕ) → k ≤ length xs → flat_map (sent_to index xs) (range_with_len 0 k) ≡ take k ys
  sent_front zero h = refl
  sent_front (suc k) h =
      let one = sent_one index xs once same k (omega arith) in
      let there : slice_get ys k ≡ Some one.1 = moved.1 one.0 k one.2 ∙ one.3 in
      let within = slice_get_within ys k one.1 there in
      let more : flat_map (sent_to index xs) (range_with_len 0 (k + 1)) ≡ take (k + 1) ys =
      flat_map-range_push (sent_to index xs) k
      ∙ ap (λ l. l ++ sent_to index xs k) (sent_front k (omega arith))
      ∙ ap (λ l. take k ys ++ l) (one.4 ∙ ap (λ x. x ∷ []) (sym (get_or_from_slice_get ys k one.1 one.1 there)))
      ∙ sym (take_more ys k one.1 within) in
      let next : k + 1 ≡ suc k = omega arith in
      subst (λ n. flat_map (sent_to index xs) (range_with_len 0 n) ≡ take n ys) next more

  pub permuted_is : ys ≡ permuted index xs
  unfolding permuted
  permuted_is = sym (sent_front (length xs) (omega arith) ∙ take_all (length xs) ys (omega (arith, moved.0)))

module _ {X : Type 0} where
  pub segmented_permute_is : (ls : List ℕ) (index : List ℤ) (xs ys : List X) → PermuteSegments ls index → sum ls ≡ length index → length index ≡ length xs → IsPermutedBySegments ls index xs ys → ys ≡ segmented_permute ls index xs
  unfolding PermuteSegments
  segmented_permute_is [] index xs ys each total same moved = nil_from_length ys (omega (arith, moved.0))
  segmented_permute_is (l ∷ ls) index xs ys each total same moved =
      let parts = sum_by-cons (λ (n : ℕ). n) l ls in
      let front : length (take l index) ≡ length (take l xs) = omega (arith, length-take l index, length-take l xs) in
      let back : length (drop l index) ≡ length (drop l xs) = omega (arith, length-drop l index, length-drop l xs) in
      let left : sum ls ≡ length (drop l index) = omega (arith, length-drop l index) in
      let long : length (drop l ys) ≡ length (drop l xs) = omega (arith, moved.0, length-drop l ys, length-drop l xs) in
      let first = permuted_is (take l index) (take l xs) (take l ys) (All-head HoldsEachPlaceOnce (take l index) (cut ls (drop l index)) each) front moved.1.0 in
      let rest = segmented_permute_is ls (drop l index) (drop l xs) (drop l ys) (All-tail HoldsEachPlaceOnce (take l index) (cut ls (drop l index)) each) left back (long, moved.1.1) in
      sym (take-append-drop l ys) ∙ ap (λ a. a ++ drop l ys) first ∙ ap (λ b. permuted (take l index) (take l xs) ++ b) rest

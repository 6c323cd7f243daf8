-- Permute and back permute undo one another: `gathered-permuted`, `permuted-gathered`. `IsPermuted-permuted`,
-- `length-gathered`, `slice_get-gathered`: where the items stand.
use Rattle.std.proofs.Common.{◌≡◌, ◌↔◌, ℕ, zero, suc, ◌+◌, ◌<◌, List, [], ◌∷◌, ◌++◌, length, refl, sym, ap, subst, ◌∙◌, get_or, ℤ, pos, Some, All, unsigned_abs, arith, inl, inr}
use Rattle.std.specs.List.{cons_option, flat_map, range_with_len, slice_get}
use Rattle.std.proofs.lemmas.Bool.{cases_lt}
use Rattle.std.proofs.lemmas.List.{length-append}
use Rattle.std.proofs.lemmas.List.Elements.{All-head, All-tail}
use Rattle.std.proofs.lemmas.Option.{get_or_from_slice_get, slice_get-get_or, slice_get_cases, slice_get_within}
use Rattle.scan_kernels.specs.Gathered.{gathered, item_at}
use Rattle.scan_kernels.specs.Indices.{HoldsEachPlaceOnce, IsPlaceOf}
use Rattle.scan_kernels.specs.Permuted.{IsPermuted, permuted, sent_to}
use Rattle.scan_kernels.proofs.Counting.{each_inside}
use Rattle.scan_kernels.proofs.Places.{place_below, place_is}
use Rattle.scan_kernels.proofs.Sending.{flat_map-range_push, permuted_is, sent_item, sent_one}

module _ {X : Type 0} where
  slice_get-append_left : (xs ys : List X) (i : ℕ) → i < length xs → slice_get (xs ++ ys) i ≡ slice_get xs i
  slice_get-append_left [] ys i h = absurd (omega arith)
  slice_get-append_left (x ∷ xs) ys zero h = refl
  slice_get-append_left (x ∷ xs) ys (suc i) h = slice_get-append_left xs ys i (omega arith)

  slice_get_seam : (xs ys : List X) (i : ℕ) → i ≡ length xs → slice_get (xs ++ ys) i ≡ slice_get ys 0
  slice_get_seam [] ys i h = ap (slice_get ys) h
  slice_get_seam (x ∷ xs) ys zero h = absurd (omega arith)
  slice_get_seam (x ∷ xs) ys (suc i) h = slice_get_seam xs ys i (omega arith)

  -- lists of one item each, joined
  length_singles : (f : ℕ → List X) (n : ℕ) → ((p : ℕ) → p < n → length (f p) ≡ 1) → length (flat_map f (range_with_len 0 n)) ≡ n
  length_singles f zero one = refl
  length_singles f (suc n) one =
      let next : n + 1 ≡ suc n = omega arith in
      let before = length_singles f n (λ p lt. one p (omega arith)) in
      let more : length (flat_map f (range_with_len 0 (n + 1))) ≡ n + 1 =
      omega (arith, ap length (flat_map-range_push f n), length-append (flat_map f (range_with_len 0 n)) (f n), before, one n (omega arith)) in
      subst (λ k. length (flat_map f (range_with_len 0 k)) ≡ k) next more

  slice_get_singles : (f : ℕ → List X) (n p : ℕ) → ((p : ℕ) → p < n → length (f p) ≡ 1) → p < n → slice_get (flat_map f (range_with_len 0 n)) p ≡ slice_get (f p) 0
  slice_get_singles f zero p one lt = absurd (omega arith)
  slice_get_singles f (suc n) p one lt =
      let next : n + 1 ≡ suc n = omega arith in
      let front = flat_map f (range_with_len 0 n) in
      let long = length_singles f n (λ q lt. one q (omega arith)) in
      let more : slice_get (flat_map f (range_with_len 0 (n + 1))) p ≡ slice_get (f p) 0 =
      ap (λ l. slice_get l p) (flat_map-range_push f n)
      ∙ elim (cases_lt p n) as (λ _. slice_get (front ++ f n) p ≡ slice_get (f p) 0) [
        | inl before ↦ slice_get-append_left front (f n) p (omega arith) ∙ slice_get_singles f n p (λ q lt. one q (omega arith)) before
        | inr past ↦
            let last : p ≡ n = omega arith in
            slice_get_seam front (f n) p (omega arith) ∙ ap (λ q. slice_get (f q) 0) (sym last)
      ] in
      subst (λ k. slice_get (flat_map f (range_with_len 0 k)) p ≡ slice_get (f p) 0) next more

module _ {X : Type 0} (index : List ℤ) (xs : List X) (once : HoldsEachPlaceOnce index) (same : length index ≡ length xs) where
  one_each : (p : ℕ) → p < length xs → length (sent_to index xs p) ≡ 1
  one_each p lt = ap length (sent_one index xs once same p (omega arith)).4

  pub IsPermuted-permuted : IsPermuted index xs (permuted index xs)
  unfolding permuted
  IsPermuted-permuted = (
    length_singles (sent_to index xs) (length xs) one_each,
    λ i p holds.
        let within = slice_get_within index i (pos p) holds in
        let here = get_or_from_slice_get index i (pos p) (pos 0) holds in
        let place = place_below (length index) p (get_or index i (pos 0)) (each_inside index once i (pos 0) within) here in
        slice_get_singles (sent_to index xs) (length xs) p one_each (omega arith)
        ∙ elim (slice_get_cases xs i).1 as (λ _. slice_get (sent_to index xs p) 0 ≡ slice_get xs i) [
          | inl q ↦ ap (λ l. slice_get l 0) (sent_item index xs once same i p q.0 holds place q.2) ∙ sym q.2
          | inr q ↦ absurd (omega (arith, q.0))
        ],
  )

module _ {X : Type 0} (xs : List X) where
  item_is : (z : ℤ) → IsPlaceOf (length xs) z → (x : X) × (item_at xs z ≡ Some x)
  item_is z h =
      let p = unsigned_abs z in
      let below = place_below (length xs) p z h (place_is (length xs) z h) in
      elim (slice_get_cases xs p).1 [ inl q ↦ (q.0, ap (item_at xs) (place_is (length xs) z h) ∙ q.2) | inr q ↦ absurd (omega (arith, q.0)) ]

  pub length-gathered : (index : List ℤ) → All (IsPlaceOf (length xs)) index → length (gathered index xs) ≡ length index
  length-gathered [] within = refl
  length-gathered (z ∷ index) within =
      let item = item_is z (All-head (IsPlaceOf (length xs)) z index within) in
      ap (λ o. length (cons_option o (gathered index xs))) item.1 ∙ ap suc (length-gathered index (All-tail (IsPlaceOf (length xs)) z index within))

  pub slice_get-gathered : (index : List ℤ) → All (IsPlaceOf (length xs)) index → (i p : ℕ) → slice_get index i ≡ Some (pos p) → slice_get (gathered index xs) i ≡ slice_get xs p
  slice_get-gathered [] within i p holds = cc
  slice_get-gathered (z ∷ index) within zero p holds =
      let item = item_is z (All-head (IsPlaceOf (length xs)) z index within) in
      let here : z ≡ pos p = get_or_from_slice_get (z ∷ index) 0 (pos p) (pos 0) holds in
      ap (λ o. slice_get (cons_option o (gathered index xs)) 0) item.1 ∙ sym item.1 ∙ ap (item_at xs) here
  slice_get-gathered (z ∷ index) within (suc i) p holds =
      let item = item_is z (All-head (IsPlaceOf (length xs)) z index within) in
      ap (λ o. slice_get (cons_option o (gathered index xs)) (suc i)) item.1 ∙ slice_get-gathered index (All-tail (IsPlaceOf (length xs)) z index within) i p holds

-- a list whose items are those that an index reads
gathered_is : {X : Type 0} (index : List ℤ) (ys xs : List X) → length index ≡ length xs → ((i : ℕ) → i < length index → item_at ys (get_or index i (pos 0)) ≡ slice_get xs i) → gathered index ys ≡ xs
gathered_is [] ys [] same items = refl
gathered_is [] ys (x ∷ xs) same items = absurd (omega arith)
gathered_is (z ∷ index) ys [] same items = absurd (omega arith)
gathered_is (z ∷ index) ys (x ∷ xs) same items =
    ap (λ o. cons_option o (gathered index ys)) (items 0 (omega arith))
    ∙ ap (λ l. x ∷ l) (gathered_is index ys xs (omega arith) (λ i lt. items (suc i) (omega arith)))

module _ {X : Type 0} (index : List ℤ) (xs : List X) (once : HoldsEachPlaceOnce index) (same : length index ≡ length xs) where
  pub gathered-permuted : gathered index (permuted index xs) ≡ xs
  gathered-permuted =
      let moved = IsPermuted-permuted index xs once same in
      gathered_is index (permuted index xs) xs same (λ i lt.
      let z = get_or index i (pos 0) in
      let place = place_is (length index) z (each_inside index once i (pos 0) lt) in
      ap (item_at (permuted index xs)) place ∙ moved.1 i (unsigned_abs z) (slice_get-get_or index i (pos 0) lt ∙ ap Some place))

  pub permuted-gathered : permuted index (gathered index xs) ≡ xs
  permuted-gathered =
      let within : All (IsPlaceOf (length xs)) index = subst (λ n. All (IsPlaceOf n) index) same (each_inside index once) in
      let long = length-gathered xs index within in
      sym (permuted_is index (gathered index xs) xs once (sym long) (sym same ∙ sym long, λ i p holds. sym (slice_get-gathered xs index within i p holds)))

  pub permuted_alone : (ys : List X) → IsPermuted index xs ys ↔ (ys ≡ permuted index xs)
  permuted_alone ys = ((λ moved. permuted_is index xs ys once same moved), λ e. subst (IsPermuted index xs) (sym e) (IsPermuted-permuted index xs once same))

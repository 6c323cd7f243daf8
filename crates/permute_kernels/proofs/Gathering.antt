-- Items that are read at the places of an index: `gathered_more` (one more item), `segmented_gather_more` (one more
-- segment), and which places the segments hold (`within_at`, `within_more`, `within_all`, `places_of_segment`).
use Rattle.std.proofs.Common.{◌≡◌, ℕ, ◌+◌, ◌-◌, ◌<◌, ◌≤◌, List, [], ◌∷◌, ◌++◌, length, take, drop, sym, ap, subst, ◌∙◌, get_or, sum, zip, ℤ, pos, Some, All, arith}
use Rattle.std.specs.List.{AllZip, cons_option, filter_map, flat_map}
use Rattle.std.proofs.lemmas.List.{append-nil, length-take, take_all, take_more}
use Rattle.std.proofs.lemmas.List.Concat.{flat_map-append}
use Rattle.std.proofs.lemmas.List.Elements.{filter_map-append}
use Rattle.std.proofs.lemmas.Option.{slice_get-get_or}
use Rattle.segment_desc.specs.Cut.{cut}
use Rattle.scan_kernels.specs.Gathered.{gathered, item_at, segmented_gather}
use Rattle.scan_kernels.specs.Indices.{IsPlaceOf, LieWithin}
use Rattle.scan_kernels.proofs.Segments.{AllZip_at, AllZip_push, cut_more, length_cut, length_segment, next_segment, segment_at, zip_push}

-- which places each segment holds, segment by segment
module _ (ss ts : List ℕ) (j at : ℕ) (index : List ℤ) where
  pub within_at : LieWithin ss ts index → j < length ts → length ss ≡ length ts → at ≡ sum (take j ts) → All (IsPlaceOf (get_or ss j 0)) (take (at + get_or ts j 0 - at) (drop at index))
  within_at within lt counts place =
      subst (All (IsPlaceOf (get_or ss j 0))) (segment_at ts index j [] lt ∙ next_segment ts j at index place) (AllZip_at (λ n places. All (IsPlaceOf n) places) ss (cut ts index) j 0 [] within (omega arith))

  pub within_more : LieWithin (take j ss) (take j ts) index → j < length ts → length ss ≡ length ts → at ≡ sum (take j ts) → All (IsPlaceOf (get_or ss j 0)) (take (at + get_or ts j 0 - at) (drop at index)) → LieWithin (take (j + 1) ss) (take (j + 1) ts) index
  within_more within lt counts place one =
      let R : ℕ → List ℤ → Type 0 = λ n places. All (IsPlaceOf n) places in
      let places = take (at + get_or ts j 0 - at) (drop at index) in
      subst (λ ns. AllZip R ns (cut (take (j + 1) ts) index)) (sym (take_more ss j 0 (omega arith)))
      (subst (AllZip R (take j ss ++ get_or ss j 0 ∷ [])) (sym (cut_more ts j at index lt place)) (AllZip_push R (take j ss) (cut (take j ts) index) (get_or ss j 0) places within one))

  pub within_all : LieWithin (take j ss) (take j ts) index → length ts ≤ j → length ss ≡ length ts → LieWithin ss ts index
  within_all within past counts =
      subst (λ ns. LieWithin ns ts index) (take_all j ss (omega arith)) (subst (λ ns. LieWithin (take j ss) ns index) (take_all j ts past) within)

module _ {X : Type 0} where
  pub gathered_more : (index : List ℤ) (xs : List X) (i p : ℕ) (x : X) → i < length index → get_or index i (pos 0) ≡ pos p → p < length xs → x ≡ get_or xs p x → gathered (take (i + 1) index) xs ≡ gathered (take i index) xs ++ x ∷ []
  gathered_more index xs i p x lt here within is =
      let z = get_or index i (pos 0) in
      let one : filter_map (item_at xs) (z ∷ []) ≡ x ∷ [] = ap (λ o. cons_option o []) (ap (item_at xs) here ∙ slice_get-get_or xs p x within ∙ ap Some (sym is)) in
      ap (filter_map (item_at xs)) (take_more index i (pos 0) lt)
      ∙ filter_map-append (item_at xs) (take i index) (z ∷ [])
      ∙ ap (λ l. gathered (take i index) xs ++ l) one

  pub segmented_gather_more : (ss ts : List ℕ) (j from at : ℕ) (xs : List X) (index : List ℤ) → j < length ts → length ss ≡ length ts → from ≡ sum (take j ss) → at ≡ sum (take j ts)
      → segmented_gather (take (j + 1) ss) xs (take (j + 1) ts) index ≡ segmented_gather (take j ss) xs (take j ts) index ++ gathered (take (at + get_or ts j 0 - at) (drop at index)) (take (from + get_or ss j 0 - from) (drop from xs))
  segmented_gather_more ss ts j from at xs index lt counts begins place =
      let read : List X × List ℤ → List X = λ p. gathered p.1 p.0 in
      let items = take (from + get_or ss j 0 - from) (drop from xs) in
      let places = take (at + get_or ts j 0 - at) (drop at index) in
      let same : length (cut (take j ss) xs) ≡ length (cut (take j ts) index) = omega (arith, length_cut (take j ss) xs, length_cut (take j ts) index, length-take j ss, length-take j ts) in
      let pairs : zip (cut (take (j + 1) ss) xs) (cut (take (j + 1) ts) index) ≡ zip (cut (take j ss) xs) (cut (take j ts) index) ++ (items, places) ∷ [] =
      ap (λ a. zip a (cut (take (j + 1) ts) index)) (cut_more ss j from xs (omega arith) begins)
      ∙ ap (λ b. zip (cut (take j ss) xs ++ items ∷ []) b) (cut_more ts j at index lt place)
      ∙ zip_push (cut (take j ss) xs) (cut (take j ts) index) items places same in
      ap (flat_map read) pairs
      ∙ flat_map-append read (zip (cut (take j ss) xs) (cut (take j ts) index)) ((items, places) ∷ [])
      ∙ ap (λ l. segmented_gather (take j ss) xs (take j ts) index ++ l) (append-nil (gathered places items))

  pub places_of_segment : (ss ts : List ℕ) (j from at : ℕ) (xs : List X) (index : List ℤ) → j < length ts → length ss ≡ length ts → from ≡ sum (take j ss) → at ≡ sum (take j ts) → sum ss ≡ length xs → LieWithin ss ts index
      → All (IsPlaceOf (length (take (from + get_or ss j 0 - from) (drop from xs)))) (take (at + get_or ts j 0 - at) (drop at index))
  places_of_segment ss ts j from at xs index lt counts begins place total within =
      let places = take (at + get_or ts j 0 - at) (drop at index) in
      subst (λ n. All (IsPlaceOf n) places) (sym (length_segment ss j from xs (omega arith) begins total)) (within_at ss ts j at index within lt counts place)

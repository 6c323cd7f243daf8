-- Segments that an index reads (`read_many`, `read_is`, `read_within`, `read_lengths`), and segments that it moves (`moved_many`,
-- `moved_is`, `moved_once`, `moved_lengths`, `moved_places`).
use Rattle.std.proofs.Common.{◌≡◌, ℕ, ℤ, ◌<◌, List, [], ◌∷◌, length, take, drop, map, sum, zip, refl, sym, ap, subst, ◌∙◌, get_or, All, arith}
use Rattle.std.proofs.lemmas.List.{get_or_default, get_or-map, length-drop, length-map, length-take-le, same_lists}
use Rattle.std.specs.List.{AllZip}
use Rattle.std.proofs.lemmas.List.Elements.{All-head, All-tail}
use Rattle.std.proofs.lemmas.Slice.Zip.{length-zip, get_or-zip}
use Rattle.segment_desc.specs.Cut.{cut, joined}
use Rattle.segment_desc.proofs.Pieces.{cut-joined}
use Rattle.scan_kernels.specs.Gathered.{gathered}
use Rattle.scan_kernels.specs.Indices.{HoldsEachPlaceOnce, IsPlaceOf, LieWithin, PermuteSegments}
use Rattle.scan_kernels.specs.Permuted.{IsPermuted, IsPermutedBySegments, permuted, segmented_permute}
use Rattle.scan_kernels.proofs.NextSegment.{segment_within}
use Rattle.scan_kernels.proofs.SegmentLists.{joined_map, segment_is, segments_many}
use Rattle.scan_kernels.proofs.SegmentRuns.{length-joined}
use Rattle.scan_kernels.proofs.Segments.{AllZip_at, length_cut, segment_at}
use Rattle.scan_kernels.proofs.UndoneMoves.{IsPermuted-permuted, length-gathered}

-- lists that are as long as the numbers say
lengths_at : {X : Type 0} (ls : List ℕ) (zss : List (List X)) → length zss ≡ length ls → ((n : ℕ) → n < length ls → length (get_or zss n []) ≡ get_or ls n 0) → ls ≡ map length zss
lengths_at ls zss many each =
    let same = length-map zss length in
    same_lists ls (map length zss) (omega arith) (λ n d lt.
    get_or_default ls n d 0 lt ∙ sym (each n lt) ∙ sym (get_or-map length zss n [] d (omega arith)))

-- a segment has as many items as its length says
length_at : {X : Type 0} (ls : List ℕ) (xs : List X) (n : ℕ) → n < length ls → sum ls ≡ length xs → length (take (get_or ls n 0) (drop (sum (take n ls)) xs)) ≡ get_or ls n 0
length_at ls xs n h total =
    let within = segment_within ls n (sum (take n ls)) (length xs) h refl total in
    let rest = length-drop (sum (take n ls)) xs in
    length-take-le (get_or ls n 0) (drop (sum (take n ls)) xs) (omega arith)

module _ {X : Type 0} (ss : List ℕ) (xs : List X) (ts : List ℕ) (index : List ℤ) (counts : length ss ≡ length ts) where
  pub read_many : length (map (λ (p : List X × List ℤ). gathered p.1 p.0) (zip (cut ss xs) (cut ts index))) ≡ length ts
  read_many =
      let source = length_cut ss xs in
      let by = length_cut ts index in
      segments_many (λ (p : List X × List ℤ). gathered p.1 p.0) (cut ss xs) (cut ts index) (omega arith) ∙ source ∙ counts

  pub read_is : (n : ℕ) → n < length ts → get_or (map (λ (p : List X × List ℤ). gathered p.1 p.0) (zip (cut ss xs) (cut ts index))) n []
      ≡ gathered (take (get_or ts n 0) (drop (sum (take n ts)) index)) (take (get_or ss n 0) (drop (sum (take n ss)) xs))
  read_is n h =
      let source = length_cut ss xs in
      let by = length_cut ts index in
      segment_is (λ (p : List X × List ℤ). gathered p.1 p.0) (cut ss xs) (cut ts index) n [] [] (omega arith) (omega arith)
      ∙ ap (λ i. gathered i (get_or (cut ss xs) n [])) (segment_at ts index n [] h)
      ∙ ap (gathered (take (get_or ts n 0) (drop (sum (take n ts)) index))) (segment_at ss xs n [] (omega arith))

  pub read_within : sum ss ≡ length xs → LieWithin ss ts index → (n : ℕ) → n < length ts
      → All (IsPlaceOf (length (take (get_or ss n 0) (drop (sum (take n ss)) xs)))) (take (get_or ts n 0) (drop (sum (take n ts)) index))
  read_within total within n h =
      let places = take (get_or ts n 0) (drop (sum (take n ts)) index) in
      let here = AllZip_at (λ n places. All (IsPlaceOf n) places) ss (cut ts index) n 0 [] within (omega arith) in
      subst (λ k. All (IsPlaceOf k) places) (sym (length_at ss xs n (omega arith) total)) (subst (All (IsPlaceOf (get_or ss n 0))) (segment_at ts index n [] h) here)

  pub read_lengths : sum ss ≡ length xs → sum ts ≡ length index → LieWithin ss ts index → ts ≡ map length (map (λ (p : List X × List ℤ). gathered p.1 p.0) (zip (cut ss xs) (cut ts index)))
  read_lengths total all within =
      lengths_at ts (map (λ (p : List X × List ℤ). gathered p.1 p.0) (zip (cut ss xs) (cut ts index))) read_many (λ n h.
      ap length (read_is n h)
      ∙ length-gathered (take (get_or ss n 0) (drop (sum (take n ss)) xs)) (take (get_or ts n 0) (drop (sum (take n ts)) index)) (read_within total within n h)
      ∙ length_at ts index n h all)

-- what holds of each item and what is made of it holds of two lists, place by place
AllZip_of_map : {A B : Type 0} (R : A → B → Type 0) (f : A → B) (xs : List A) → All (λ x. R x (f x)) xs → AllZip R xs (map f xs)
AllZip_of_map R f [] h = tt
AllZip_of_map R f (x ∷ xs) h = (All-head (λ x. R x (f x)) x xs h, AllZip_of_map R f xs (All-tail (λ x. R x (f x)) x xs h))

module _ {X : Type 0} (ls : List ℕ) (index : List ℤ) (xs : List X) where
  pub moved_many : length (map (λ (p : List ℤ × List X). permuted p.0 p.1) (zip (cut ls index) (cut ls xs))) ≡ length ls
  moved_many =
      let first = length_cut ls index in
      let second = length_cut ls xs in
      segments_many (λ (p : List ℤ × List X). permuted p.0 p.1) (cut ls index) (cut ls xs) (omega arith) ∙ first

  pub moved_is : (n : ℕ) → n < length ls → get_or (map (λ (p : List ℤ × List X). permuted p.0 p.1) (zip (cut ls index) (cut ls xs))) n []
      ≡ permuted (take (get_or ls n 0) (drop (sum (take n ls)) index)) (take (get_or ls n 0) (drop (sum (take n ls)) xs))
  moved_is n h =
      let first = length_cut ls index in
      let second = length_cut ls xs in
      segment_is (λ (p : List ℤ × List X). permuted p.0 p.1) (cut ls index) (cut ls xs) n [] [] (omega arith) (omega arith)
      ∙ ap (λ i. permuted i (get_or (cut ls xs) n [])) (segment_at ls index n [] h)
      ∙ ap (permuted (take (get_or ls n 0) (drop (sum (take n ls)) index))) (segment_at ls xs n [] h)

  pub moved_once : PermuteSegments ls index → (n : ℕ) → n < length ls → HoldsEachPlaceOnce (take (get_or ls n 0) (drop (sum (take n ls)) index))
  unfolding PermuteSegments
  moved_once once n h =
      let first = length_cut ls index in
      subst HoldsEachPlaceOnce (segment_at ls index n [] h) (once n [] (omega arith))

  pub moved_same : sum ls ≡ length index → length index ≡ length xs → (n : ℕ) → n < length ls
      → length (take (get_or ls n 0) (drop (sum (take n ls)) index)) ≡ length (take (get_or ls n 0) (drop (sum (take n ls)) xs))
  moved_same total same n h = length_at ls index n h total ∙ sym (length_at ls xs n h (omega arith))

  pub moved_lengths : sum ls ≡ length index → length index ≡ length xs → PermuteSegments ls index
      → ls ≡ map length (map (λ (p : List ℤ × List X). permuted p.0 p.1) (zip (cut ls index) (cut ls xs)))
  moved_lengths total same once =
      lengths_at ls (map (λ (p : List ℤ × List X). permuted p.0 p.1) (zip (cut ls index) (cut ls xs))) moved_many (λ n h.
      ap length (moved_is n h)
      ∙ (IsPermuted-permuted (take (get_or ls n 0) (drop (sum (take n ls)) index)) (take (get_or ls n 0) (drop (sum (take n ls)) xs)) (moved_once once n h) (moved_same total same n h)).0
      ∙ length_at ls xs n h (omega arith))

  pub moved_length : sum ls ≡ length index → length index ≡ length xs → PermuteSegments ls index → length (segmented_permute ls index xs) ≡ length xs
  moved_length total same once =
      sym (
      sym (total ∙ same)
      ∙ ap sum (moved_lengths total same once)
      ∙ sym (length-joined (map (λ (p : List ℤ × List X). permuted p.0 p.1) (zip (cut ls index) (cut ls xs))))
      ∙ ap length (joined_map (λ (p : List ℤ × List X). permuted p.0 p.1) (zip (cut ls index) (cut ls xs)))
      )

  -- the list, cut into segments again
  moved_cut : sum ls ≡ length index → length index ≡ length xs → PermuteSegments ls index
      → cut ls (segmented_permute ls index xs) ≡ map (λ (p : List ℤ × List X). permuted p.0 p.1) (zip (cut ls index) (cut ls xs))
  moved_cut total same once =
      let pieces = map (λ (p : List ℤ × List X). permuted p.0 p.1) (zip (cut ls index) (cut ls xs)) in
      ap (cut ls) (sym (joined_map (λ (p : List ℤ × List X). permuted p.0 p.1) (zip (cut ls index) (cut ls xs))))
      ∙ ap (λ ks. cut ks (joined pieces)) (moved_lengths total same once)
      ∙ cut-joined pieces

  each_moved : sum ls ≡ length index → length index ≡ length xs → PermuteSegments ls index
      → All (λ (p : List ℤ × List X). IsPermuted p.0 p.1 (permuted p.0 p.1)) (zip (cut ls index) (cut ls xs))
  each_moved total same once n d lt =
      let first = length_cut ls index in
      let second = length_cut ls xs in
      let long = length-zip (cut ls index) (cut ls xs) in
      let h : n < length ls = omega arith in
      let pair : get_or (zip (cut ls index) (cut ls xs)) n d ≡ (take (get_or ls n 0) (drop (sum (take n ls)) index), take (get_or ls n 0) (drop (sum (take n ls)) xs)) =
      get_or-zip (cut ls index) (cut ls xs) n d (omega arith) (omega arith)
      ∙ ap (λ (is : List ℤ). (is, get_or (cut ls xs) n d.1)) (segment_at ls index n d.0 h)
      ∙ ap (λ (ys : List X). (take (get_or ls n 0) (drop (sum (take n ls)) index), ys)) (segment_at ls xs n d.1 h) in
      subst (λ (p : List ℤ × List X). IsPermuted p.0 p.1 (permuted p.0 p.1)) (sym pair)
      (IsPermuted-permuted (take (get_or ls n 0) (drop (sum (take n ls)) index)) (take (get_or ls n 0) (drop (sum (take n ls)) xs)) (moved_once once n h) (moved_same total same n h))

  -- each item is where the index of its segment sends it
  pub moved_places : sum ls ≡ length index → length index ≡ length xs → PermuteSegments ls index → IsPermutedBySegments ls index xs (segmented_permute ls index xs)
  moved_places total same once = (
    moved_length total same once,
    subst (AllZip (λ p ys. IsPermuted p.0 p.1 ys) (zip (cut ls index) (cut ls xs))) (sym (moved_cut total same once))
        (AllZip_of_map (λ p ys. IsPermuted p.0 p.1 ys) (λ p. permuted p.0 p.1) (zip (cut ls index) (cut ls xs)) (each_moved total same once)),
  )

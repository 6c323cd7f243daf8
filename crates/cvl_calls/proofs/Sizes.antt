-- How many items the kernels' results have, at most.
use Rattle.std.proofs.Common.{◌≡◌, ℕ, zero, suc, ◌+◌, ◌≤◌, List, [], ◌∷◌, length, take, drop, refl, ap, ◌∙◌, sum, ℤ, pos, Bool, true, false, Option, Some, None, replicate, arith, zip, length-append}
use Rattle.std.specs.List.{filter_map, flat_map, range_with_len}
use Rattle.std.proofs.lemmas.List.{length-drop, length-map, length-replicate, length-take}
use Rattle.std.proofs.lemmas.List.FromFn.{length-map-range_with_len}
use Rattle.std.proofs.lemmas.List.Sums.{sum_by-cons}
use Rattle.std.proofs.lemmas.Slice.Zip.{length-zip}
use Rattle.segment_desc.specs.Cut.{cut}
use Rattle.scan_kernels.specs.Distributed.{distributed}
use Rattle.scan_kernels.specs.Elementwise.{item_by_item, selected}
use Rattle.scan_kernels.specs.Indexed.{index_at, indexed, segmented_index}
use Rattle.scan_kernels.specs.Segmented.{reduced, scanned, segmented_scan, segmented_reduce}
use Rattle.scan_kernels.specs.Gathered.{item_at, gathered, segmented_gather}
use Rattle.scan_kernels.specs.Indices.{HoldsEachPlaceOnce, PermuteSegments}
use Rattle.scan_kernels.specs.Packed.{packed, number_set, numbers_set}
use Rattle.scan_kernels.specs.Permuted.{permuted, segmented_permute, sent_to}
use Rattle.scan_kernels.proofs.Segments.{length_cut}
use Rattle.scan_kernels.proofs.Sending.{flat_map-range_push, sent_one}
use Rattle.std.proofs.lemmas.List.Elements.{All-head, All-tail}

pub length-item_by_item : {X Y Z : Type 0} (f : X → Y → Z) (xs : List X) (ys : List Y) → length (item_by_item f xs ys) ≤ length xs
length-item_by_item f xs ys = omega (arith, length-map (zip xs ys) (λ p. f p.0 p.1), length-zip xs ys)

pub length-selected : {X : Type 0} (flags : List Bool) (xs ys : List X) → length (selected flags xs ys) ≤ length xs
length-selected [] xs ys = omega arith
length-selected (b ∷ flags) [] ys = omega arith
length-selected (b ∷ flags) (x ∷ xs) [] = omega arith
length-selected (b ∷ flags) (x ∷ xs) (y ∷ ys) = let rest = length-selected flags xs ys in omega arith

module _ {X : Type 0} (op : X → X → X) (unit : X) where
  pub length-scanned : (xs : List X) → length (scanned op unit xs) ≡ length xs
  length-scanned xs = length-map-range_with_len (λ i. reduced op unit (take i xs)) 0 (length xs)

  pub length-segmented_scan : (ls : List ℕ) (xs : List X) → length (segmented_scan op unit ls xs) ≤ length xs
  length-segmented_scan [] xs = omega arith
  length-segmented_scan (l ∷ ls) xs =
      let rest = length-segmented_scan ls (drop l xs) in
      omega (arith, length-append (scanned op unit (take l xs)) (segmented_scan op unit ls (drop l xs)), length-scanned (take l xs), length-take l xs, length-drop l xs)

  pub length-segmented_reduce : (ls : List ℕ) (xs : List X) → length (segmented_reduce op unit ls xs) ≡ length ls
  length-segmented_reduce ls xs = length-map (cut ls xs) (reduced op unit) ∙ length_cut ls xs

pub length-distributed : {X : Type 0} (ls : List ℕ) (xs : List X) → length (distributed ls xs) ≤ sum ls
length-distributed [] xs = omega arith
length-distributed (l ∷ ls) [] = omega arith
length-distributed (l ∷ ls) (x ∷ xs) =
    let rest = length-distributed ls xs in
    omega (arith, length-append (replicate l x) (distributed ls xs), length-replicate l x, sum_by-cons (λ (n : ℕ). n) l ls)

pub length-indexed : (u v : ℤ) (n : ℕ) → length (indexed u v n) ≡ n
unfolding indexed
length-indexed u v n = length-map-range_with_len (index_at u v) 0 n

pub length-segmented_index : (ls : List ℕ) (us vs : List ℤ) → length (segmented_index ls us vs) ≤ sum ls
length-segmented_index [] us vs = omega arith
length-segmented_index (l ∷ ls) [] vs = omega arith
length-segmented_index (l ∷ ls) (u ∷ us) [] = omega arith
length-segmented_index (l ∷ ls) (u ∷ us) (v ∷ vs) =
    let rest = length-segmented_index ls us vs in
    omega (arith, length-append (indexed u v l) (segmented_index ls us vs), length-indexed u v l, sum_by-cons (λ (n : ℕ). n) l ls)

module _ {X : Type 0} where
  pub length-packed-le : (flags : List Bool) (xs : List X) → length (packed flags xs) ≤ length xs
  length-packed-le [] xs = omega arith
  length-packed-le (b ∷ flags) [] = omega arith
  length-packed-le (true ∷ flags) (x ∷ xs) = let rest = length-packed-le flags xs in omega arith
  length-packed-le (false ∷ flags) (x ∷ xs) = let rest = length-packed-le flags xs in omega arith

  length-filter_map : (f : ℤ → Option X) (zs : List ℤ) → length (filter_map f zs) ≤ length zs
  length-filter_map f [] = omega arith
  length-filter_map f (z ∷ zs) = by (f z) refl (length-filter_map f zs)
    where
      by : (o : Option X) → f z ≡ o → length (filter_map f zs) ≤ length zs → length (filter_map f (z ∷ zs)) ≤ suc (length zs)
      by None was rest = rw was (omega arith)
      by (Some x) was rest = rw was (omega arith)

  pub length-gathered : (index : List ℤ) (xs : List X) → length (gathered index xs) ≤ length index
  length-gathered index xs = length-filter_map (item_at xs) index

  pub length-segmented_gather : (ss ts : List ℕ) (xs : List X) (index : List ℤ) → length (segmented_gather ss xs ts index) ≤ length index
  length-segmented_gather [] ts xs index = omega arith
  length-segmented_gather (s ∷ ss) [] xs index = omega arith
  length-segmented_gather (s ∷ ss) (t ∷ ts) xs index =
      let rest = length-segmented_gather ss ts (drop s xs) (drop t index) in
      omega (arith, length-append (gathered (take t index) (take s xs)) (segmented_gather ss (drop s xs) ts (drop t index)), length-gathered (take t index) (take s xs), length-take t index, length-drop t index)

  -- one item goes to each place
  module _ (index : List ℤ) (xs : List X) (once : HoldsEachPlaceOnce index) (same : length index ≡ length xs) where
    length-sent : (k : ℕ) → k ≤ length index → length (flat_map (sent_to index xs) (range_with_len 0 k)) ≡ k
    length-sent zero h = refl
    length-sent (suc k) h =
        let one = sent_one index xs once same k (omega arith) in
        let more : length (flat_map (sent_to index xs) (range_with_len 0 (k + 1))) ≡ k + 1 =
        ap length (flat_map-range_push (sent_to index xs) k)
        ∙ length-append (flat_map (sent_to index xs) (range_with_len 0 k)) (sent_to index xs k)
        ∙ ap (λ n. n + length (sent_to index xs k)) (length-sent k (omega arith))
        ∙ ap (λ (l : List X). k + length l) one.4 in
        let next : k + 1 ≡ suc k = omega arith in
        rw next at more

    pub length-permuted : length (permuted index xs) ≡ length xs
    unfolding permuted
    length-permuted = length-sent (length xs) (omega arith)

pub length-segmented_permute : {X : Type 0} (ls : List ℕ) (index : List ℤ) (xs : List X) → PermuteSegments ls index → length index ≡ length xs → length (segmented_permute ls index xs) ≤ length xs
unfolding PermuteSegments
length-segmented_permute [] index xs each same = omega arith
length-segmented_permute (l ∷ ls) index xs each same =
    let front : length (take l index) ≡ length (take l xs) = omega (arith, length-take l index, length-take l xs) in
    let back : length (drop l index) ≡ length (drop l xs) = omega (arith, length-drop l index, length-drop l xs) in
    let rest = length-segmented_permute ls (drop l index) (drop l xs) (All-tail HoldsEachPlaceOnce (take l index) (cut ls (drop l index)) each) back in
    let first = length-permuted (take l index) (take l xs) (All-head HoldsEachPlaceOnce (take l index) (cut ls (drop l index)) each) front in
    omega (arith, length-append (permuted (take l index) (take l xs)) (segmented_permute ls (drop l index) (drop l xs)), length-take l xs, length-drop l xs)

pub length-numbers_set : (ls : List ℕ) (flags : List Bool) → length (numbers_set ls flags) ≡ length ls
length-numbers_set ls flags = length-map (cut ls flags) (λ segment. pos (number_set segment)) ∙ length_cut ls flags

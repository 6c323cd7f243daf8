-- Items that are moved by an index: where the index holds a place, the item that stands there goes to that place.
-- `IsPermuted` says it place by place, `permuted` as a list.
use Rattle.std.specs.Prelude.{◌≡◌, ℕ, ℤ, pos, List, length, map, Some}
use Rattle.std.specs.List.{AllZip, flat_map, range_with_len, slice_get, zip}
use Rattle.std.specs.Ordering.{int_eq}
use Rattle.segment_desc.specs.Cut.{cut}
use Rattle.scan_kernels.specs.Packed.{packed}

-- ys is as long as xs, and has at each place that the index holds the item of xs that stands where the index holds it
abbrev pub IsPermuted : {X : Type 0} → List ℤ → List X → List X → Type 0
IsPermuted index xs ys = (length ys ≡ length xs) × ((i p : ℕ) → slice_get index i ≡ Some (pos p) → slice_get ys p ≡ slice_get xs i)

-- the same in each segment
abbrev pub IsPermutedBySegments : {X : Type 0} → List ℕ → List ℤ → List X → List X → Type 0
IsPermutedBySegments ls index xs ys = (length ys ≡ length xs) × AllZip (λ p ys. IsPermuted p.0 p.1 ys) (zip (cut ls index) (cut ls xs)) (cut ls ys)

-- the items that stand where the index holds the place, in order
abbrev pub sent_to : {X : Type 0} → List ℤ → List X → ℕ → List X
sent_to index xs p = packed (map (λ z. int_eq z (pos p)) index) xs

-- for each place in order, what is sent there
unfoldable pub permuted : {X : Type 0} → List ℤ → List X → List X
permuted index xs = flat_map (sent_to index xs) (range_with_len 0 (length xs))

-- the same in each segment, joined
abbrev pub segmented_permute : {X : Type 0} → List ℕ → List ℤ → List X → List X
segmented_permute ls index xs = flat_map (λ p. permuted p.0 p.1) (zip (cut ls index) (cut ls xs))

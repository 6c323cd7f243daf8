-- Lists of indices, and the conditions that the kernels have for them: `PermuteSegments` for a permutation of each
-- segment, `LieWithin` for indices into the segments of another list.
use Rattle.std.specs.Prelude.{◌≡◌, ℕ, ◌<◌, ℤ, pos, ◌≤ℤ◌, ◌<ℤ◌, List, length}
use Rattle.std.specs.List.{All, AllZip, count_by}
use Rattle.std.specs.Ordering.{int_eq}
use Rattle.segment_desc.specs.Cut.{cut}

-- the integer is a place of a list of n items
abbrev pub IsPlaceOf : ℕ → ℤ → Type 0
IsPlaceOf n z = (pos 0 ≤ℤ z) × (z <ℤ pos n)

-- how often the place stands in the index
abbrev pub times_held : ℕ → List ℤ → ℕ
times_held p index = count_by (λ z. int_eq z (pos p)) index

-- each place of a list that is as long as the index stands in the index once
abbrev pub HoldsEachPlaceOnce : List ℤ → Type 0
HoldsEachPlaceOnce index = (p : ℕ) → p < length index → times_held p index ≡ 1

-- each segment of the index holds each of its places once
unfoldable pub PermuteSegments : List ℕ → List ℤ → Type 0
PermuteSegments ls index = All HoldsEachPlaceOnce (cut ls index)

-- the segments of the index, whose lengths are ts, hold places of the segments of lengths ss, each of its own
abbrev pub LieWithin : List ℕ → List ℕ → List ℤ → Type 0
LieWithin ss ts index = AllZip (λ n places. All (IsPlaceOf n) places) ss (cut ts index)

-- The places that an index holds, as marks, and the indices that are places, as truth values.
use Rattle.std.specs.Prelude.{ℕ, ◌*◌, ℤ, pos, negsuc, Bool, false, nat_lt, List, length, map, take, drop}
use Rattle.std.specs.List.{flat_map, list_all, range_with_len, zip}
use Rattle.segment_desc.specs.Cut.{cut}
use Rattle.scan_kernels.specs.Indices.{times_held}

-- for each place of a list that is as long as the index, whether it stands in the index
unfoldable pub marks : List ℤ → List Bool
marks index = map (λ p. nat_lt 0 (times_held p index)) (range_with_len 0 (length index))

-- the same in each segment, joined
abbrev pub segmented_marks : List ℕ → List ℤ → List Bool
segmented_marks ls index = flat_map marks (cut ls index)

-- whether the integer is a place of a list of n items
abbrev pub is_place : ℕ → ℤ → Bool
is_place n (pos p) = nat_lt p n
is_place n (negsuc p) = false

-- for each index, whether it is a place of the segment that has the number of its own
abbrev pub each_within : List ℕ → List ℕ → List ℤ → List Bool
each_within ss ts index = flat_map (λ p. map (is_place p.0) p.1) (zip ss (cut ts index))

-- whether all flags are set
abbrev pub all_set : List Bool → Bool
all_set flags = list_all (λ b. b) flags

-- the same of each of the first chunks of a size
unfoldable pub chunks_set : ℕ → ℕ → List Bool → List Bool
chunks_set count size flags = map (λ k. all_set (take size (drop (k * size) flags))) (range_with_len 0 count)

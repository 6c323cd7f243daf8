-- Items that are read by an index.
use Rattle.std.specs.Prelude.{ℕ, ℤ, pos, negsuc, List, Option, None}
use Rattle.std.specs.List.{filter_map, flat_map, slice_get, zip}
use Rattle.segment_desc.specs.Cut.{cut}

-- the item at the place, if the list has the place
abbrev pub item_at : {X : Type 0} → List X → ℤ → Option X
item_at xs (pos p) = slice_get xs p
item_at xs (negsuc n) = None

-- for each index in order, the item at its place
abbrev pub gathered : {X : Type 0} → List ℤ → List X → List X
gathered index xs = filter_map (item_at xs) index

-- each segment of the index reads the segment of the items that has its number
abbrev pub segmented_gather : {X : Type 0} → List ℕ → List X → List ℕ → List ℤ → List X
segmented_gather ss xs ts index = flat_map (λ p. gathered p.1 p.0) (zip (cut ss xs) (cut ts index))

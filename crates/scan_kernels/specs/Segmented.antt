-- Scans and reductions of the segments of a list.
use Rattle.std.specs.Prelude.{ℕ, List, length, map, fold, take}
use Rattle.std.specs.List.{flat_map, range_with_len}
use Rattle.segment_desc.specs.Cut.{cut}

-- what op makes of the items, from the unit on and from left to right
abbrev pub reduced : {X : Type 0} → (X → X → X) → X → List X → X
reduced op unit xs = fold op unit xs

-- the exclusive scan: item i is the reduction of the first i items
abbrev pub scanned : {X : Type 0} → (X → X → X) → X → List X → List X
scanned op unit xs = map (λ i. reduced op unit (take i xs)) (range_with_len 0 (length xs))

-- the scan of each segment, joined
abbrev pub segmented_scan : {X : Type 0} → (X → X → X) → X → List ℕ → List X → List X
segmented_scan op unit ls xs = flat_map (scanned op unit) (cut ls xs)

-- the reduction of each segment
abbrev pub segmented_reduce : {X : Type 0} → (X → X → X) → X → List ℕ → List X → List X
segmented_reduce op unit ls xs = map (reduced op unit) (cut ls xs)

-- Items that are kept by a flag, and how many there are in each segment.
use Rattle.std.specs.Prelude.{ℕ, ℤ, pos, Bool, List, map}
use Rattle.std.specs.List.{count_by, filter, zip}
use Rattle.segment_desc.specs.Cut.{cut}

-- the items whose flag is set, in order
abbrev pub packed : {X : Type 0} → List Bool → List X → List X
packed flags xs = map (λ p. p.1) (filter (λ p. p.0) (zip flags xs))

-- how many flags are set
abbrev pub number_set : List Bool → ℕ
number_set flags = count_by (λ b. b) flags

-- how many are set in each segment, as numbers
abbrev pub each_number : List ℕ → List Bool → List ℕ
each_number ls flags = map number_set (cut ls flags)

-- how many are set in each segment, as integers
abbrev pub numbers_set : List ℕ → List Bool → List ℤ
numbers_set ls flags = map (λ segment. pos (number_set segment)) (cut ls flags)

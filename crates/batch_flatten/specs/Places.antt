-- Places of a batch: where its requests stand in their list, counted from 0. A wave is a list of places.
use Rattle.std.specs.Prelude.{◌≢◌, ℕ, ◌<◌, List, length, slice_get, slice_index}
use Rattle.std.specs.List.{AllByRecursion, filter_map, flat_map, range_with_len}
use Rattle.batch_flatten.specs.Waves.{in_wave}

-- what stands at these places of a list
abbrev pub at_places : {X : Type 0} → List X → List ℕ → List X
at_places xs places = filter_map (slice_get xs) places

-- each of these numbers is below the bound
abbrev pub AreBelow : ℕ → List ℕ → Type 0
AreBelow bound ns = (i : ℕ) → slice_index ns i < bound

-- the place is none of these
abbrev pub IsOutside : List ℕ → ℕ → Type 0
IsOutside places place = AllByRecursion (λ p. p ≢ place) places

-- the places of a wave, in rising order
abbrev pub places_of : List ℕ → ℕ → List ℕ
places_of ws wave = in_wave wave ws (range_with_len 0 (length ws))

-- the places of so many waves, wave after wave
abbrev pub places_of_first : List ℕ → ℕ → List ℕ
places_of_first ws waves = flat_map (places_of ws) (range_with_len 0 waves)

-- Values that are given out over segments.
use Rattle.std.specs.Prelude.{ℕ, List, replicate}
use Rattle.std.specs.List.{flat_map, zip}

-- each value as often as its segment is long, joined
abbrev pub distributed : {X : Type 0} → List ℕ → List X → List X
distributed ls values = flat_map (λ p. replicate p.0 p.1) (zip ls values)

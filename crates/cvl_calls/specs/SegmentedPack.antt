-- The pack of each segment, joined.
use Rattle.std.specs.Prelude.{ℕ, Bool, List}
use Rattle.std.specs.List.{flat_map, zip}
use Rattle.segment_desc.specs.Cut.{cut}
use Rattle.scan_kernels.specs.Packed.{packed}

abbrev pub segmented_pack : {X : Type 0} → List ℕ → List Bool → List X → List X
segmented_pack ls flags xs = flat_map (λ p. packed p.0 p.1) (zip (cut ls flags) (cut ls xs))

-- Integers that rise by a stride from the start of each segment.
use Rattle.std.specs.Prelude.{ℕ, ℤ, pos, List, map}
use Rattle.std.specs.Int.{w64, int_wrapping_add, int_wrapping_mul}
use Rattle.std.specs.List.{flat_map, range_with_len, zip}

-- the item at a place, counted from 0: the start and as many strides, wrapping
unfoldable pub index_at : ℤ → ℤ → ℕ → ℤ
index_at start stride i = int_wrapping_add w64 start (int_wrapping_mul w64 (pos i) stride)

-- the items of one segment
unfoldable pub indexed : ℤ → ℤ → ℕ → List ℤ
indexed start stride l = map (index_at start stride) (range_with_len 0 l)

-- the items of each segment, from its own start by its own stride, joined
abbrev pub segmented_index : List ℕ → List ℤ → List ℤ → List ℤ
segmented_index ls starts strides = flat_map (λ p. indexed p.1.0 p.1.1 p.0) (zip ls (zip starts strides))

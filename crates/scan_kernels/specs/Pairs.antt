-- A part of a segmented scan as a pair: whether a segment begins in it, and what it gives from the last such place on, or
-- from its beginning on if there is none (Blelloch 1990).
use Rattle.std.specs.Prelude.{Bool, cond, ◌||◌}

-- the pair of two parts in a row
abbrev pub join_pairs : {X : Type 0} → (X → X → X) → Bool × X → Bool × X → Bool × X
join_pairs op (b, x) (c, y) = (b || c, cond c y (op x y))

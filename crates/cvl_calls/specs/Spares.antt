-- How much memory is kept for the next results.
use Rattle.std.specs.Prelude.{ℕ, ◌≤◌, ◌+◌, ◌*◌, Option, None, Some, Box}
use Rattle.std.specs.declared.alloc.Global.{Global}

-- the greatest number of bytes of a vector that is kept
abbrev pub kept_each : ℕ
kept_each = 8388608

-- the greatest number of bytes of the last vector of each kind
abbrev pub kept_beside : ℕ
kept_beside = 16777216

-- the greatest number of bytes of all vectors of a kind that are kept for joined runs
abbrev pub shelved_each : ℕ
shelved_each = 16777216

-- the greatest number of bytes that are kept for joined runs
abbrev pub shelved_limit : ℕ
shelved_limit = 33554432

-- the greatest number of bytes in all
abbrev pub kept_limit : ℕ
kept_limit = 50331648

-- the bytes of so many integers and so many truth values
abbrev pub kept_bytes : ℕ → ℕ → ℕ
kept_bytes ints bools = 8 * ints + bools

-- for how many items the vectors of a shelf have space, if there is one
abbrev pub shelved : Option (Box ℕ Global) → ℕ
shelved None = 0
shelved (Some shelf) = shelf.value

-- the bytes that are kept for joined runs, if any were
abbrev pub shelved_bytes : Option (Box ℕ Global) → ℕ
shelved_bytes None = 0
shelved_bytes (Some shelves) = shelves.value

-- neither kind has more than may be kept
pub record IsBounded (ints bools : ℕ) : Type 0 where
  pub few_ints : 8 * ints ≤ kept_each
  pub few_bools : bools ≤ kept_each

-- neither shelf has more than may lie on it
pub record IsShelved (ints bools : ℕ) : Type 0 where
  pub few_ints : 8 * ints ≤ shelved_each
  pub few_bools : bools ≤ shelved_each

-- What reads and writes say besides the bytes: the counts of failures, the bounds, and what is still to be written.
use Rattle.std.specs.Prelude.{◌≡◌, ◌+◌, ◌<◌, ◌≤◌, ◌++◌, ◌-◌, ◌^◌, ℕ, List, length, Option, Some, None, Result, Ok, Err}
use Rattle.script_lines.specs.declared.streams.Failed.{Failed}

-- how many failures an adapter of std counts
abbrev pub failure_limit : ℕ
failure_limit = 2 ^ 64 - 1

-- a count of failures rises where a call failed, and else stays
abbrev pub StaysUnless : Result ℕ Failed → ℕ → ℕ → Type 0
StaysUnless (Ok n) old new = new ≡ old
StaysUnless (Err e) old new = old < new

-- a read gives no more than there is room for, and than is left
abbrev pub IsReadBound : Result ℕ Failed → List ℕ → ℕ → ℕ → Type 0
IsReadBound (Ok n) buffer old new = (n ≤ length buffer) × (new + n ≡ old)
IsReadBound (Err e) buffer old new = new ≤ old

-- a write takes something, and no more than there is
abbrev pub IsWriteBound : Result ℕ Failed → List ℕ → Type 0
IsWriteBound (Ok n) bytes = (0 < n) × (n ≤ length bytes)
IsWriteBound (Err e) bytes = Unit {0}

-- Where it is known what was written at first: a beginning of the text was written behind it, and rest is left of the text.
abbrev pub Awaits : Option (List ℕ) → Option (List ℕ) → List ℕ → List ℕ → Type 0
Awaits None now rest text = Unit {0}
Awaits (Some before) None rest text = ⊥
Awaits (Some before) (Some written) rest text = (made : List ℕ) × (written ≡ before ++ made) × (text ≡ made ++ rest)

-- some beginning of the text was written
abbrev pub HasBegun : Option (List ℕ) → Option (List ℕ) → List ℕ → Type 0
HasBegun old new text = (rest : List ℕ) × Awaits old new rest text

-- What a block notes of the values that it replaced.
use Rattle.std.specs.Prelude.{◌≡◌, ℕ, ◌==◌, Bool, true, false, List, slice_index_or}
use Rattle.std.specs.List.{list_any}
use Rattle.vector_memory.specs.declared.value.Value.{Value}

-- values, each with the index of its name among those held
abbrev pub PlacedValues : Type 0
PlacedValues = List (ℕ × Value)

-- what contracts see of the notes: the values, and for how many more there is room
pub record Noted : Type 0 where
  pub entries : PlacedValues
  pub spaces : ℕ

abbrev pub noted : PlacedValues → ℕ → Noted
noted entries spaces = record { entries = entries; spaces = spaces }

-- whether a value is noted of an index
abbrev pub is_noted : PlacedValues → ℕ → Bool
is_noted notes index = list_any (λ r. r.0 == index) notes

-- whether an index is marked
abbrev pub is_marked : List Bool → ℕ → Bool
is_marked marks index = slice_index_or marks index false

-- an index is marked only where a value is noted of it
abbrev pub AreMarked : List Bool → PlacedValues → Type 0
AreMarked marks notes = (index : ℕ) → is_marked marks index ≡ true → is_noted notes index ≡ true

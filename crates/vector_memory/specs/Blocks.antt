-- A block under way: what it changed, beside the values that were held when it began.
use Rattle.std.specs.Prelude.{◌≡◌, ℕ, ◌+◌, ◌≤◌, Bool, true, false, not, List, [], ◌∷◌, ◌++◌, filter, length, Option, Some, None}
use Rattle.std.specs.List.{list_any}
use Rattle.indexmap.specs.IndexMap as maps
use Rattle.indexmap.specs.IndexSet as sets
use Rattle.vector_memory.specs.declared.name.Name.{Name}
use Rattle.vector_memory.specs.declared.block.Block.{Block}
use Rattle.vector_memory.specs.Names.{same_name}
use Rattle.vector_memory.specs.Notes.{PlacedValues}
use Rattle.vector_memory.specs.States.{Began, NamedValues, contents}

-- whether a name was freed
abbrev pub is_freed : List Name → Name → Bool
is_freed freed n = list_any (same_name n) freed

-- the entries whose names were not freed
abbrev pub live : List Name → NamedValues → NamedValues
live freed held = filter (λ e. not (is_freed freed e.0)) held

-- what a memory shows: of what it holds the names that were not freed, and behind them those that came in the block
abbrev pub shown : NamedValues → Block → NamedValues
shown held b = live b.freed.keys held ++ b.late.entries

-- the entries with the values put back that were replaced
abbrev pub restored : NamedValues → PlacedValues → NamedValues
restored held [] = held
restored held (r ∷ rs) = maps.set_value_at (restored held rs) r.0 r.1

-- what contracts see of a block
abbrev pub began_of : Bool → NamedValues → Block → Option Began
began_of true held b = Some (record { entries = contents (restored held b.replaced.entries); left = b.left })
began_of false held b = None

-- there is room for so many changes, and for the names that came in what the memory holds
pub record HasRoom (spaces : ℕ) (b : Block) : Type 0 where
  pub replaced : b.left ≤ b.replaced.spaces
  pub freed : b.left ≤ sets.spare b.freed
  pub late : b.left ≤ maps.spare b.late
  pub held : length b.late.entries + b.left ≤ spaces

-- nothing is noted
pub record IsBlank (b : Block) : Type 0 where
  pub replaced : b.replaced.entries ≡ []
  pub freed : b.freed.keys ≡ []
  pub late : b.late.entries ≡ []

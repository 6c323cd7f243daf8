-- What a book shows.
use Rattle.std.specs.Prelude.{ℕ, List}
use Rattle.vector_memory.specs.declared.bounds.Bounds.{Bounds}
use Rattle.vector_memory.specs.States.{State}
use Rattle.call_history.specs.declared.entry.Entry.{Entry}
use Rattle.call_history.specs.History.{replay}

pub record BookState : Type 0 where
  pub history : List Entry
  -- how much its memory may hold
  pub bounds : Bounds
  -- for how many further entries there is space
  pub spaces : ℕ

-- the memory that the history leads to
abbrev pub memory_of : BookState → State
memory_of b = replay b.bounds b.history

-- Calls whose integers are written over those at their targets, all by one kernel run.
use Rattle.std.specs.Prelude.{◌≡◌, ◌≢◌, ◌+◌, ◌<◌, ◌≤◌, ℤ, List, [], ◌∷◌, length, Some}
use Rattle.std.specs.List.{AllByRecursion}
use Rattle.vector_memory.specs.declared.name.Name.{Name}
use Rattle.vector_memory.specs.Contents.{Ints}
use Rattle.vector_memory.specs.States.{State, cells_of, put, value_at}
use Rattle.cvl_text.specs.Answers.{Done}
use Rattle.cvl_text.specs.Tasks.{Task, reads}
use Rattle.cvl_calls.specs.Steps.{stepped}

-- the memory after these tasks, one by one
abbrev pub after_all : State → List Task → State
after_all m [] = m
after_all m (t ∷ ts) = after_all (stepped m t).memory ts

-- each of these tasks is done, one by one: none has a fault, and none a reply of its own
abbrev pub AreDone : State → List Task → Type 0
AreDone m [] = Unit {0}
AreDone m (t ∷ ts) = ((stepped m t).answer ≡ Done) × AreDone (stepped m t).memory ts

-- the memory with no integers left at these names
abbrev pub emptied : State → List Name → State
emptied m [] = m
emptied m (n ∷ ns) = emptied (put m n (Ints [])) ns

-- the memory with these integers at these names
abbrev pub filled : State → List Name → List (List ℤ) → State
filled m [] vs = m
filled m (n ∷ ns) [] = m
filled m (n ∷ ns) (v ∷ vs) = filled (put m n (Ints v)) ns vs

-- The names stand for these integers, one at least each, and so each for its own once those before it are taken out: no name comes twice.
abbrev pub AreHeld : State → List Name → List (List ℤ) → Type 0
AreHeld m [] [] = Unit {0}
AreHeld m [] (v ∷ vs) = ⊥
AreHeld m (n ∷ ns) [] = ⊥
AreHeld m (n ∷ ns) (v ∷ vs) = (value_at m n ≡ Some (Ints v)) × (0 < length v) × (length v ≤ m.limit) × AreHeld (put m n (Ints [])) ns vs

-- The names stand for no integers, and the memory has room for these, one after another.
abbrev pub HasRoomFor : State → List Name → List (List ℤ) → Type 0
HasRoomFor m [] [] = Unit {0}
HasRoomFor m [] (v ∷ vs) = ⊥
HasRoomFor m (n ∷ ns) [] = ⊥
HasRoomFor m (n ∷ ns) (v ∷ vs) = (value_at m n ≡ Some (Ints [])) × (cells_of m.entries + length v ≤ m.room) × (length v ≤ m.limit) × HasRoomFor (put m n (Ints v)) ns vs

-- the task reads no name that stands for no integers
abbrev pub ReadsNoneEmpty : State → Task → Type 0
ReadsNoneEmpty m t = AllByRecursion (λ n. value_at m n ≢ Some (Ints [])) (reads t)

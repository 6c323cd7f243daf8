-- Which machines there may be, and why one is not made: the first reason that applies.
-- `IsSized` is what a machine keeps of its size.
use Rattle.std.specs.Prelude.{◌≡◌, ◌⊎◌, ℕ, ◌+◌, ◌<◌, ◌≤◌}
use Rattle.vector_memory.specs.States.{IsLawfulRoom, room_limit}
use Rattle.call_history.specs.Callers.{caller_limit}
use Rattle.combiner.specs.Standing.{Machine}
use Rattle.combiner.specs.declared.fault.MakeFault.{MakeFault}
use Rattle.combiner.specs.declared.fault.MakeFault.TheVariants.{BadCallers, BadRoom, OutOfMemory}

-- 1 to 64 callers
abbrev pub IsLawfulCount : ℕ → Type 0
IsLawfulCount callers = (1 ≤ callers) × (callers ≤ caller_limit)

abbrev pub IsMadeImpossible : ℕ → ℕ → MakeFault → Type 0
IsMadeImpossible callers room BadCallers = (callers ≡ 0) ⊎ (caller_limit < callers)
IsMadeImpossible callers room BadRoom = IsLawfulCount callers × ((room ≡ 0) ⊎ (room_limit < room))
IsMadeImpossible callers room OutOfMemory = IsLawfulCount callers × IsLawfulRoom room

-- a machine has a slot for each caller, and one for the desk
abbrev pub IsSized : Machine → ℕ → Type 0
IsSized m callers = (callers + 1 ≡ m.slots) × (callers ≤ caller_limit)

-- What opening comes to.
use Rattle.std.specs.Prelude.{◌≡◌, ℕ, ℤ, pos, negsuc, ◌==◌, List, length, All, MatchBool, if◌then◌else◌}
use Rattle.combiner.specs.declared.fault.MakeFault.{MakeFault}
use Rattle.combiner.specs.declared.fault.MakeFault.TheVariants.{BadCallers, BadRoom, OutOfMemory}
use Rattle.combiner.specs.Making.{IsMadeImpossible}
use Rattle.cvl_port.specs.declared.port.Port.{Port}
use Rattle.cvl_port.specs.Ports.{AreNewPorts, IsFresh}
use Rattle.cvl_c.specs.declared.caller.CallerLine.{CallerLine}
use Rattle.cvl_c.specs.Callers.{AreOpen, IsLineShut}

-- the callers are those of a new machine with this room, in order, and have asked nothing
abbrev pub AreOpened : ℕ → List CallerLine → Type 0
AreOpened room callers = (ports : List Port) × AreOpen callers ports × AreNewPorts (length callers) room ports × All IsFresh ports

-- -1 want of memory, -8 not 1 to 64 callers, -9 no lawful room
abbrev pub make_fault : ℕ → MakeFault
make_fault n = if n == 0 then OutOfMemory else if n == 7 then BadCallers else BadRoom

-- The callers are opened; or nothing was done, since one of them is open, -10, or no such machine was made.
abbrev pub IsOpening : ℤ → ℕ → List CallerLine → List CallerLine → Type 0
IsOpening (pos n) room old new = All IsLineShut old × AreOpened room new
IsOpening (negsuc n) room old new = (new ≡ old) × MatchBool (n == 9) (All IsLineShut old → ⊥) (IsMadeImpossible (length old) room (make_fault n))

-- What the calls of a caller of C do: nothing where it is shut, and else what the call of its port does.
use Rattle.std.specs.Global.{Box}
use Rattle.std.specs.Prelude.{◌≡◌, Option, Some, None, List, map}
use Rattle.cvl_port.specs.declared.port.Port.{Port}
use Rattle.cvl_c.specs.declared.caller.Caller.{Caller}
use Rattle.cvl_c.specs.declared.caller.CallerLine.{CallerLine}

-- the port of a caller, if it is open
abbrev pub port_in : Caller → Option Port
port_in c = c.handle.port

-- the port of the caller on a line, if it is open
abbrev pub port_on : CallerLine → Option Port
port_on line = port_in line.caller

abbrev pub IsLineShut : CallerLine → Type 0
IsLineShut line = port_on line ≡ None

-- A shut caller stays shut, and the answer says that it is. An open one stays open, and this was done to its port.
abbrev pub CallsPort : {A : Type 0} → A → A → Option Port → Option Port → (Port → Port → Type 0) → Type 0
CallsPort answer shut None after Does = (answer ≡ shut) × (after ≡ None)
CallsPort answer shut (Some p) None Does = ⊥
CallsPort answer shut (Some p) (Some q) Does = Does p q

-- where it is shut, and where it is open
abbrev pub AsksPort : Option Port → Type 0 → (Port → Type 0) → Type 0
AsksPort None Shut Says = Shut
AsksPort (Some p) Shut Says = Says p

-- these callers are open, with these ports in order
abbrev pub AreOpen : List CallerLine → List Port → Type 0
AreOpen callers ports = map port_on callers ≡ map Some ports

abbrev pub port_boxed : Box Port → Port
port_boxed b = b.value

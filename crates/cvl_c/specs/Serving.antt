-- What serving does, in the words of the machine.
use Rattle.std.specs.Prelude.{◌≡◌, ◌<◌, ◌≤◌, Bool, true, false}
use Rattle.call_history.specs.History.{Begins}
use Rattle.combiner.specs.Standing.{Standing, callers_of}
use Rattle.combiner.specs.Says.{MeetsAnother, serving}
use Rattle.combiner.specs.Serving.{ServesBatch}
use Rattle.cvl_c.specs.declared.serving.Served.{Served}

-- all that were left were served as one batch, so many in so many waves; or another caller had the book
abbrev pub IsServed : Bool → Served → Standing → Standing → Type 0
IsServed true s c d =
    (d ≡ serving c d.seen s.calls) × Begins c.seen d.seen × ServesBatch c.bounds (callers_of c.machine) c.seen d.seen s.calls s.waves s.kernels
    × (s.waves ≤ s.calls) × (s.calls ≤ callers_of c.machine)
IsServed false s c d = MeetsAnother c d × (1 < callers_of c.machine)

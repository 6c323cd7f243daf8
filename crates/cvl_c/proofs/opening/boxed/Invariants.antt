use Rattle.std.proofs.Common.{◌≡◌, ◌++◌, map}
use Rattle.std.specs.Vec.Iter.{into_iter_items}
use Rattle.cvl_c.specs.Callers.{port_boxed}
use Rattle.cvl_c.proofs.opening.boxed.Given as goal

abbrev pub invariant-loop-port : goal.invariant-loop-port
invariant-loop-port l = map port_boxed l.boxes.items ++ into_iter_items l.port-iterator ≡ l.fn.ports.items

use Rattle.std.specs.Prelude.{◌≡◌, ◌++◌, All, map}
use Rattle.std.specs.Vec.Iter.{into_iter_items}
use Rattle.std.specs.Arc.{arc_value}
use Rattle.cvl_port.specs.Ports.{IsFresh, caller_of}
use Rattle.cvl_port.proofs.opening.port_all.Given as goal

abbrev pub invariant-loop-caller : goal.invariant-loop-caller
invariant-loop-caller l = record {
  placed : All (λ c. c.machine ≡ arc_value l.machine) (into_iter_items l.caller-iterator);
  made : map caller_of l.ports.items ++ into_iter_items l.caller-iterator ≡ l.fn.callers.items;
  fresh : All IsFresh l.ports.items;
}

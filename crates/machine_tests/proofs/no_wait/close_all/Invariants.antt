use Rattle.std.proofs.Common.{◌≡◌}
use Rattle.std.specs.Prelude.{All}
use Rattle.std.specs.Vec.Iter.{into_iter_items}
use Rattle.machine_tests.proofs.no_wait.close_all.Given as goal

abbrev pub invariant-loop-caller : goal.invariant-loop-caller
invariant-loop-caller g l = (l.last.machine ≡ l.fn.shared) × All (λ r. r.0.machine ≡ l.fn.shared) (into_iter_items l.caller-iterator)

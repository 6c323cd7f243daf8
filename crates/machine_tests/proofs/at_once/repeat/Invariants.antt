use Rattle.std.proofs.Common.{◌≡◌}
use Rattle.combiner.specs.Standing.{IsIdle}
use Rattle.machine_tests.proofs.at_once.repeat.Given as goal

abbrev pub invariant-loop : goal.invariant-loop
invariant-loop g l = (l.caller.machine ≡ l.shared) × IsIdle l.caller

use Rattle.std.proofs.Common.{◌≡◌}
use Rattle.combiner.specs.Standing.{IsIdle}
use Rattle.call_tests.proofs.refused.machines.runs_each.Given as goal

abbrev pub invariant-loop-line : goal.invariant-loop-line
invariant-loop-line g l = (l.caller.machine ≡ l.shared) × IsIdle l.caller

use Rattle.std.proofs.Common.{◌≡◌}
use Rattle.machine_tests.proofs.refused.run_all.Given as goal

abbrev pub invariant-loop-line : goal.invariant-loop-line
invariant-loop-line g l = l.caller.machine ≡ l.shared

use Rattle.std.proofs.Common.{◌≡◌}
use Rattle.machine_tests.proofs.no_wait.work.Given as goal

abbrev pub invariant-loop-round : goal.invariant-loop-round
invariant-loop-round g l = l.caller.machine ≡ l.shared

use Rattle.std.proofs.Common.{◌≤◌}
use Rattle.machine_tests.proofs.no_wait.is_as_told.Given as goal

abbrev pub invariant-loop-place : goal.invariant-loop-place
invariant-loop-place l = l.heard ≤ l.place

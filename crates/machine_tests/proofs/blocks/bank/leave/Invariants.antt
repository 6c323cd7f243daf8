use Rattle.std.proofs.Common.{◌≡◌}
use Rattle.machine_tests.proofs.blocks.bank.leave.Given as goal

abbrev pub invariant-loop : goal.invariant-loop
invariant-loop g l = l.caller.machine ≡ l.shared

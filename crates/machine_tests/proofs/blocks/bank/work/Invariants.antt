use Rattle.std.proofs.Common.{◌≡◌}
use Rattle.combiner.specs.Standing.{IsIdle}
use Rattle.machine_tests.proofs.blocks.bank.work.Given as goal

abbrev pub invariant-loop : goal.invariant-loop
invariant-loop g l = (l.caller.machine ≡ l.shared) × IsIdle l.caller

use Rattle.std.proofs.Common.{◌≡◌}
use Rattle.combiner.specs.Standing.{IsIdle}
use Rattle.bench.proofs.calls.fill.Given as goal

abbrev pub invariant-loop-k : goal.invariant-loop-k
invariant-loop-k g l = (l.caller.machine ≡ l.shared) × IsIdle l.caller

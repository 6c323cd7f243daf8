use Rattle.std.proofs.Common.{◌≡◌}
use Rattle.combiner.specs.Standing.{IsIdle}
use Rattle.random_trial.proofs.threads.call_lines.Given as goal

abbrev pub invariant-loop-i : goal.invariant-loop-i
invariant-loop-i g l = (l.caller.machine ≡ l.shared) × IsIdle l.caller

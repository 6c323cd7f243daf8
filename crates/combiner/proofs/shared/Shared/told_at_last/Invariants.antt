use Rattle.std.proofs.Common.{◌≡◌}
use Rattle.combiner.specs.Own.{KeepsCall}
use Rattle.combiner.proofs.shared.Shared.told_at_last.Given as goal

abbrev pub invariant-loop : goal.invariant-loop
invariant-loop g l = (l.caller.machine ≡ l.self) × KeepsCall l.fn.caller l.caller

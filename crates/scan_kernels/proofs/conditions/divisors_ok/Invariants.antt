use Rattle.std.proofs.Common.{◌↔◌, All, IsTrue, take}
use Rattle.item_operations.specs.IntegerOps.{IsDivisor}
use Rattle.scan_kernels.proofs.conditions.divisors_ok.Given as goal

abbrev pub invariant-loop-divisor : goal.invariant-loop-divisor
invariant-loop-divisor l = IsTrue l.each ↔ All IsDivisor (take l.divisor-index l.divisors)

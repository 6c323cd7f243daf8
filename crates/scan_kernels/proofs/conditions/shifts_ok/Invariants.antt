use Rattle.std.proofs.Common.{◌↔◌, All, IsTrue, take}
use Rattle.item_operations.specs.IntegerOps.{IsShift}
use Rattle.scan_kernels.proofs.conditions.shifts_ok.Given as goal

abbrev pub invariant-loop-count : goal.invariant-loop-count
invariant-loop-count l = IsTrue l.each ↔ All IsShift (take l.count-index l.counts)

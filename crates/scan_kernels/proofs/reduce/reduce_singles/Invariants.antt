use Rattle.std.proofs.Common.{take, map}
use Rattle.segment_desc.specs.Appended.{Appends}
use Rattle.scan_kernels.proofs.reduce.reduce_singles.Given as goal

abbrev pub invariant-loop-item : goal.invariant-loop-item
invariant-loop-item g l = Appends l.initial.made l.made (map (g.O.Combine.combined l.op (g.O.Combine.unit_of l.op)) (take l.item-index l.items))

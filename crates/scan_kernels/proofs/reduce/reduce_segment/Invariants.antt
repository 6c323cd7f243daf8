use Rattle.std.proofs.Common.{◌≡◌, take}
use Rattle.std.specs.List.{fold}
use Rattle.scan_kernels.proofs.reduce.reduce_segment.Given as goal

abbrev pub invariant-loop-item : goal.invariant-loop-item
invariant-loop-item g l = l.so_far ≡ fold (g.O.Combine.combined l.op) (g.O.Combine.unit_of l.op) (take l.item-index l.items)

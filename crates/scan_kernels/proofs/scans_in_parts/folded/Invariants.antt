use Rattle.std.proofs.Common.{◌≡◌, take}
use Rattle.std.specs.List.{fold}
use Rattle.scan_kernels.proofs.scans_in_parts.folded.Given as goal

abbrev pub invariant-loop-item : goal.invariant-loop-item
invariant-loop-item g l = l.so_far ≡ fold (g.O.Combine.combined l.op) l.fn.first (take l.item-index l.items)

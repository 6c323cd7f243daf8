use Rattle.std.proofs.Common.{◌≡◌, take, map}
use Rattle.scan_kernels.proofs.reductions.reduce_singles_over.Given as goal

abbrev pub invariant-loop-i : goal.invariant-loop-i
invariant-loop-i g l = take l.i l.part ≡ map (g.O.Combine.combined l.op (g.O.Combine.unit_of l.op)) (take l.i l.items)

use Rattle.std.proofs.Common.{◌≡◌, take, drop, sum}
use Rattle.scan_kernels.specs.Segmented.{segmented_reduce}
use Rattle.scan_kernels.proofs.reductions.reduce_each_over.Given as goal

abbrev pub invariant-loop-i : goal.invariant-loop-i
invariant-loop-i g l = record {
  rest : l.rest ≡ drop (sum (take l.i l.lengths)) l.items;
  done : take l.i l.part ≡ segmented_reduce (g.O.Combine.combined l.op) (g.O.Combine.unit_of l.op) (take l.i l.lengths) l.items;
}

use Rattle.std.proofs.Common.{◌≡◌, ◌≤◌, ◌-◌, length, take, drop, sum}
use Rattle.scan_kernels.specs.Segmented.{segmented_reduce}
use Rattle.scan_kernels.proofs.reductions.reduce_over.Given as goal

abbrev pub invariant-loop-start : goal.invariant-loop-start
invariant-loop-start g l = record {
  rest : l.rest ≡ drop (sum (take l.start l.lengths)) l.items;
  done : take l.start l.part ≡ take l.start (segmented_reduce (g.O.Combine.combined l.op) (g.O.Combine.unit_of l.op) l.lengths l.items);
  within : l.start ≤ length l.part;
}

abbrev pub decreases-loop-start : goal.decreases-loop-start
decreases-loop-start g l = length l.initial.part - l.start

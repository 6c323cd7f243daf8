use Rattle.std.proofs.Common.{◌≡◌, ◌++◌, take, drop}
use Rattle.std.specs.List.{fold}
use Rattle.scan_kernels.specs.Segmented.{scanned}
use Rattle.scan_kernels.proofs.overwrite.scan_over.Given as goal

abbrev pub invariant-loop-i : goal.invariant-loop-i
invariant-loop-i g l = record {
  list : l.list ≡ take l.i (scanned (g.O.Combine.combined l.op) (g.O.Combine.unit_of l.op) l.initial.list) ++ drop l.i l.initial.list;
  so_far : l.so_far ≡ fold (g.O.Combine.combined l.op) (g.O.Combine.unit_of l.op) (take l.i l.initial.list);
}

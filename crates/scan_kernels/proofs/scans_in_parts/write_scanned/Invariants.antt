use Rattle.std.proofs.Common.{◌≡◌, ◌++◌, take, drop}
use Rattle.std.specs.List.{fold}
use Rattle.scan_kernels.specs.Segmented.{scanned}
use Rattle.scan_kernels.proofs.scans_in_parts.write_scanned.Given as goal

abbrev pub invariant-loop-i : goal.invariant-loop-i
invariant-loop-i g l = record {
  made : l.part ≡ take l.i (scanned (g.O.Combine.combined l.op) l.fn.first l.items) ++ drop l.i l.initial.part;
  so_far : l.so_far ≡ fold (g.O.Combine.combined l.op) l.fn.first (take l.i l.items);
}

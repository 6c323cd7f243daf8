use Rattle.std.proofs.Common.{◌≡◌, ◌+◌, take, vec_len}
use Rattle.std.specs.List.{fold}
use Rattle.segment_desc.specs.Appended.{Appends}
use Rattle.scan_kernels.specs.Segmented.{scanned}
use Rattle.scan_kernels.proofs.scan.scan_from.Given as goal

abbrev pub invariant-loop-item : goal.invariant-loop-item
invariant-loop-item g l = record {
  so_far : l.so_far ≡ fold (g.O.Combine.combined l.op) l.fn.first (take l.item-index l.items);
  made : Appends l.initial.made l.made (scanned (g.O.Combine.combined l.op) l.fn.first (take l.item-index l.items));
  long : vec_len l.made ≡ vec_len l.initial.made + l.item-index;
}

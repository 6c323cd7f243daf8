use Rattle.std.proofs.Common.{◌≡◌, ◌+◌, ◌*◌, take, vec_len}
use Rattle.std.specs.List.{fold}
use Rattle.segment_desc.specs.Appended.{Appends}
use Rattle.scan_kernels.specs.Segmented.{scanned}
use Rattle.scan_kernels.proofs.scan.scan_fours.Given as goal

abbrev pub invariant-loop-four : goal.invariant-loop-four
invariant-loop-four g l = record {
  so_far : l.so_far ≡ fold (g.O.Combine.combined l.op) l.fn.first (take (4 * l.four) l.items);
  made : Appends l.initial.made l.made (scanned (g.O.Combine.combined l.op) l.fn.first (take (4 * l.four) l.items));
  long : vec_len l.made ≡ vec_len l.initial.made + 4 * l.four;
}

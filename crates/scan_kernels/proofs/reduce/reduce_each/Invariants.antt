use Rattle.std.proofs.Common.{◌≡◌, ◌+◌, take, drop, sum, vec_len}
use Rattle.segment_desc.specs.Appended.{Appends}
use Rattle.scan_kernels.specs.Segmented.{segmented_reduce}
use Rattle.scan_kernels.proofs.reduce.reduce_each.Given as goal

abbrev pub invariant-loop-length : goal.invariant-loop-length
invariant-loop-length g l = record {
  rest : l.rest ≡ drop (sum (take l.length-index l.lengths)) l.items;
  made : Appends l.initial.made l.made (segmented_reduce (g.O.Combine.combined l.op) (g.O.Combine.unit_of l.op) (take l.length-index l.lengths) l.items);
  long : vec_len l.made ≡ vec_len l.initial.made + l.length-index;
}

use Rattle.std.proofs.Common.{◌≡◌, ◌+◌, ◌≤◌, ◌++◌, length, sum, vec_len, vec_capacity}
use Rattle.std.specs.Slice.Iter.{chunks_rest}
use Rattle.scan_kernels.specs.Segmented.{segmented_scan}
use Rattle.scan_kernels.proofs.scan.scan.Given as goal

abbrev pub invariant-loop-block : goal.invariant-loop-block
invariant-loop-block g l = record {
  can_next : (goal.iterator-loop-block g).can_next l.block-iterator;
  is_finite : (goal.iterator-loop-block g).is_finite l.block-iterator;
  within : sum (chunks_rest l.block-iterator) ≤ length l.rest;
  made : l.made.items ++ segmented_scan (g.O.Combine.combined l.op) (g.O.Combine.unit_of l.op) (chunks_rest l.block-iterator) l.rest
      ≡ segmented_scan (g.O.Combine.combined l.op) (g.O.Combine.unit_of l.op) l.lengths l.items;
  room : vec_len l.made + sum (chunks_rest l.block-iterator) ≡ vec_capacity l.made;
}

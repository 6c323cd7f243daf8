use Rattle.std.proofs.Common.{◌≡◌, ◌+◌, ◌++◌, length, sum, vec_len, vec_capacity}
use Rattle.std.specs.Slice.Iter.{chunks_rest}
use Rattle.segment_desc.specs.Lengths.{IsWithinLimits}
use Rattle.scan_kernels.specs.Indexed.{segmented_index}
use Rattle.scan_kernels.proofs.indices.index_each.Given as goal

abbrev pub invariant-loop-block : goal.invariant-loop-block
invariant-loop-block g l = record {
  can_next : (goal.iterator-loop-block g).can_next l.block-iterator;
  is_finite : (goal.iterator-loop-block g).is_finite l.block-iterator;
  starts : length (chunks_rest l.block-iterator) ≡ length l.rest_starts;
  strides : length (chunks_rest l.block-iterator) ≡ length l.rest_strides;
  within : IsWithinLimits (chunks_rest l.block-iterator);
  made : l.made.items ++ segmented_index (chunks_rest l.block-iterator) l.rest_starts l.rest_strides ≡ segmented_index l.lengths l.starts l.strides;
  room : vec_len l.made + sum (chunks_rest l.block-iterator) ≡ vec_capacity l.made;
}

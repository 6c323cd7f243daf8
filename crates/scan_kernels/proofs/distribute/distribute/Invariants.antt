use Rattle.std.proofs.Common.{◌≡◌, ◌+◌, ◌++◌, length, sum, vec_len, vec_capacity}
use Rattle.std.specs.Slice.Iter.{chunks_rest}
use Rattle.scan_kernels.specs.Distributed.{distributed}
use Rattle.scan_kernels.proofs.distribute.distribute.Given as goal

abbrev pub invariant-loop-block : goal.invariant-loop-block
invariant-loop-block g l = record {
  can_next : (goal.iterator-loop-block g).can_next l.block-iterator;
  is_finite : (goal.iterator-loop-block g).is_finite l.block-iterator;
  count : length (chunks_rest l.block-iterator) ≡ length l.rest;
  made : l.made.items ++ distributed (chunks_rest l.block-iterator) l.rest ≡ distributed l.lengths l.values;
  room : vec_len l.made + sum (chunks_rest l.block-iterator) ≡ vec_capacity l.made;
}

use Rattle.std.proofs.Common.{◌≡◌, ◌+◌, take, sum, vec_len}
use Rattle.std.specs.List.{flat_map, zip}
use Rattle.segment_desc.specs.Appended.{Appends}
use Rattle.scan_kernels.specs.Indexed.{indexed}
use Rattle.scan_kernels.proofs.indices.index_segments.Given as goal

abbrev pub invariant-loop-j : goal.invariant-loop-j
invariant-loop-j l = record {
  made : Appends l.initial.made l.made (flat_map (λ p. indexed p.1.0 p.1.1 p.0) (take l.j (zip l.lengths (zip l.starts l.strides))));
  long : vec_len l.made ≡ vec_len l.initial.made + sum (take l.j l.lengths);
}

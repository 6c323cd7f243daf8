use Rattle.std.proofs.Common.{◌≡◌, ◌+◌, take, map, vec_len}
use Rattle.std.specs.List.{zip}
use Rattle.segment_desc.specs.Appended.{Appends}
use Rattle.scan_kernels.specs.Indexed.{index_at}
use Rattle.scan_kernels.proofs.indices.index_singles.Given as goal

abbrev pub invariant-loop-j : goal.invariant-loop-j
invariant-loop-j l = record {
  made : Appends l.initial.made l.made (map (λ p. index_at p.0 p.1 0) (take l.j (zip l.starts l.strides)));
  long : vec_len l.made ≡ vec_len l.initial.made + l.j;
}

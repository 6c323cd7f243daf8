use Rattle.std.proofs.Common.{◌≡◌, ◌+◌, take, replicate, sum, vec_len}
use Rattle.std.specs.List.{flat_map, zip}
use Rattle.segment_desc.specs.Appended.{Appends}
use Rattle.scan_kernels.proofs.distribute.distribute_each.Given as goal

abbrev pub invariant-loop-j : goal.invariant-loop-j
invariant-loop-j g l = record {
  made : Appends l.initial.made l.made (flat_map (λ p. replicate p.0 p.1) (take l.j (zip l.lengths l.values)));
  long : vec_len l.made ≡ vec_len l.initial.made + sum (take l.j l.lengths);
}

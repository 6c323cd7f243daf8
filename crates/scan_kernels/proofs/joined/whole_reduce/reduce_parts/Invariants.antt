use Rattle.std.proofs.Common.{◌≡◌, length, map, take, vec_len, vec_capacity}
use Rattle.scan_kernels.specs.Segmented.{reduced}
use Rattle.scan_kernels.proofs.joined.whole_reduce.reduce_parts.Given as goal

abbrev pub invariant-loop-part : goal.invariant-loop-part
invariant-loop-part g l = record {
  made : l.made.items ≡ map (λ p. reduced (g.O.Combine.combined l.op) (g.O.Combine.unit_of l.op) p.now) (take l.part-index l.parts);
  long : vec_len l.made ≡ l.part-index;
  room : vec_capacity l.made ≡ length l.parts;
}

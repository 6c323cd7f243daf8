use Rattle.std.proofs.Common.{◌≡◌, length, take, sum, vec_len, vec_capacity}
use Rattle.scan_kernels.specs.Gathered.{segmented_gather}
use Rattle.permute_kernels.proofs.back_permute.gather_each.Given as goal

abbrev pub invariant-loop-j : goal.invariant-loop-j
invariant-loop-j g l = record {
  begins : l.from ≡ sum (take l.j l.source);
  place : l.at ≡ sum (take l.j l.by);
  made : l.made.items ≡ segmented_gather (take l.j l.source) l.items (take l.j l.by) l.index;
  long : vec_len l.made ≡ l.at;
  room : vec_capacity l.made ≡ length l.index;
}

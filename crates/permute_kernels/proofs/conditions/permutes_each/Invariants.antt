use Rattle.std.proofs.Common.{◌≡◌, take, sum}
use Rattle.scan_kernels.specs.Indices.{PermuteSegments}
use Rattle.permute_kernels.proofs.conditions.permutes_each.Given as goal

abbrev pub invariant-loop-length : goal.invariant-loop-length
invariant-loop-length l = record {
  place : l.at ≡ sum (take l.length-index l.lengths);
  each : PermuteSegments (take l.length-index l.lengths) l.index;
}

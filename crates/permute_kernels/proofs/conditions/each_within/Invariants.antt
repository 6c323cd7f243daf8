use Rattle.std.proofs.Common.{◌≡◌, take, sum}
use Rattle.scan_kernels.specs.Indices.{LieWithin}
use Rattle.permute_kernels.proofs.conditions.each_within.Given as goal

abbrev pub invariant-loop-j : goal.invariant-loop-j
invariant-loop-j l = record {
  place : l.at ≡ sum (take l.j l.by);
  each : LieWithin (take l.j l.source) (take l.j l.by) l.index;
}

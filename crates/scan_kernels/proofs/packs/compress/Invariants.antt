use Rattle.std.proofs.Common.{◌≡◌, ◌≤◌, take}
use Rattle.scan_kernels.proofs.Packing.{kept_before}
use Rattle.scan_kernels.proofs.packs.compress.Given as goal

abbrev pub invariant-loop-i : goal.invariant-loop-i
invariant-loop-i g l = record {
  kept : take l.many l.buffer ≡ kept_before l.flags l.items l.i;
  few : l.many ≤ l.i;
}

use Rattle.std.proofs.Common.{◌≡◌, ◌+◌, ◌≤◌, ◌-◌, length, take}
use Rattle.scan_kernels.specs.Packed.{number_set}
use Rattle.scan_kernels.proofs.packs.place_behind.Given as goal

abbrev pub invariant-loop-left : goal.invariant-loop-left
invariant-loop-left l = record {
  number : l.left + number_set (take l.at l.flags) ≡ l.number;
  within : l.at ≤ length l.flags;
}

abbrev pub decreases-loop-left : goal.decreases-loop-left
decreases-loop-left l = length l.flags - l.at

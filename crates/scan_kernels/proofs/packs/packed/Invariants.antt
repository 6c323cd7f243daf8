use Rattle.std.proofs.Common.{◌≡◌, ◌≤◌, ◌-◌, length, take, vec_len, vec_capacity}
use Rattle.scan_kernels.specs.Packed.{number_set, packed}
use Rattle.scan_kernels.proofs.packs.packed.Given as goal

abbrev pub invariant-loop-at : goal.invariant-loop-at
invariant-loop-at g l = record {
  made : l.made.items ≡ packed (take l.at l.flags) (take l.at l.items);
  long : vec_len l.made ≡ number_set (take l.at l.flags);
  full : vec_capacity l.made ≡ number_set l.flags;
  within : l.at ≤ length l.items;
  room : length l.buffer ≡ 128;
}

abbrev pub decreases-loop-at : goal.decreases-loop-at
decreases-loop-at g l = length l.items - l.at

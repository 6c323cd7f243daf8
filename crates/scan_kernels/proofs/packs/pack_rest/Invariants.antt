use Rattle.std.proofs.Common.{◌≡◌, ◌≤◌, ◌-◌, length, take}
use Rattle.scan_kernels.specs.Packed.{number_set, packed}
use Rattle.scan_kernels.proofs.packs.pack_rest.Given as goal

abbrev pub invariant-loop-done : goal.invariant-loop-done
invariant-loop-done g l = record {
  made : take l.done l.part ≡ packed (take l.at l.flags) (take l.at l.items);
  within : l.done ≤ length l.initial.part;
  place : l.at ≤ length l.items;
  number : l.done ≡ number_set (take l.at l.flags);
}

abbrev pub decreases-loop-done : goal.decreases-loop-done
decreases-loop-done g l = length l.items - l.at

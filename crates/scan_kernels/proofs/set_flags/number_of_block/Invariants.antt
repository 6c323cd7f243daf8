use Rattle.std.proofs.Common.{◌≡◌, take}
use Rattle.scan_kernels.specs.Packed.{number_set}
use Rattle.scan_kernels.proofs.set_flags.number_of_block.Given as goal

abbrev pub invariant-loop-flag : goal.invariant-loop-flag
invariant-loop-flag l = l.number ≡ number_set (take l.flag-index l.flags)

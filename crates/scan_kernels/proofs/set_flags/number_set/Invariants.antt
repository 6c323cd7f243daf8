use Rattle.std.proofs.Common.{◌≡◌, ◌+◌, length}
use Rattle.scan_kernels.specs.Packed.{number_set}
use Rattle.scan_kernels.proofs.set_flags.number_set.Given as goal

abbrev pub invariant-loop-rest : goal.invariant-loop-rest
invariant-loop-rest l = l.number + number_set l.rest ≡ number_set l.flags

abbrev pub decreases-loop-rest : goal.decreases-loop-rest
decreases-loop-rest l = length l.rest

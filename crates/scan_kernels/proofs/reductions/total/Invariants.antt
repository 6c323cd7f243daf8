use Rattle.std.proofs.Common.{◌≡◌, take, sum}
use Rattle.scan_kernels.proofs.reductions.total.Given as goal

abbrev pub invariant-loop-length : goal.invariant-loop-length
invariant-loop-length l = l.total ≡ sum (take l.length-index l.lengths)

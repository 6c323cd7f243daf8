use Rattle.std.proofs.Common.{arith}
use Rattle.scan_kernels.proofs.ResultLengths.{length-indexed}
use Rattle.scan_kernels.proofs.whole.rising.Goals as goal

pub returns-clause-exact : goal.returns-clause-exact
returns-clause-exact g c =
    omega (arith, length-indexed, c.in_ok-made.ensures.exact, c.in_ok-made.ensures.len, c.index_segment.ensures.len, c.index_segment.ensures.capacity)

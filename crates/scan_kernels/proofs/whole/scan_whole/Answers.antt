use Rattle.std.proofs.Common.{arith}
use Rattle.scan_kernels.proofs.Scanned.{length-scanned}
use Rattle.scan_kernels.proofs.whole.scan_whole.Goals as goal

pub returns-clause-exact : goal.returns-clause-exact
returns-clause-exact g c =
    let many = length-scanned (g.O.Combine.combined c.args.op) (g.O.Combine.unit_of c.args.op) c.args.items.now in
    omega (arith, c.in_ok-made.ensures.exact, c.in_ok-made.ensures.len, c.scan_segment.ensures.len, c.scan_segment.ensures.capacity)

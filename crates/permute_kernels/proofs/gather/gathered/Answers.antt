use Rattle.std.proofs.Common.{arith}
use Rattle.scan_kernels.proofs.UndoneMoves.{length-gathered}
use Rattle.permute_kernels.proofs.gather.gathered.Goals as goal

pub returns-clause-exact : goal.returns-clause-exact
returns-clause-exact g c =
    let many = length-gathered c.args.items.now c.args.index.now c.requires in
    omega (arith, c.in_ok-made.ensures.exact)

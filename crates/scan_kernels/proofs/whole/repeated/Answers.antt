use Rattle.std.proofs.Common.{arith}
use Rattle.std.proofs.lemmas.List.{length-replicate}
use Rattle.scan_kernels.proofs.whole.repeated.Goals as goal

pub returns-clause-exact : goal.returns-clause-exact
returns-clause-exact g c =
    let many = length-replicate c.args.count c.args.item in
    omega (arith, c.in_ok-made.ensures.exact, c.in_ok-made.ensures.len, c.repeat.ensures.len, c.repeat.ensures.capacity)

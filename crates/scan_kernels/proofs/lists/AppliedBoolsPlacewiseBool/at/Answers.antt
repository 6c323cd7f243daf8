use Rattle.std.proofs.Common.{arith, ◌<◌, length, Bool, false}
use Rattle.item_operations.specs.BooleanOps.{apply_b}
use Rattle.scan_kernels.proofs.Placed.{paired_get, paired_long}
use Rattle.scan_kernels.proofs.lists.AppliedBoolsPlacewiseBool.at.Goals as goal

pub returns : goal.returns
returns c =
    let f : Bool × Bool → Bool = λ p. apply_b c.args.self.now.op p.0 p.1 in
    let xs = c.args.self.now.left.now in
    let ys = c.args.self.now.right.now in
    let h : c.args.place < length xs = omega (arith, paired_long f xs ys c.requires.fits, c.requires.place) in
    let there = paired_get f xs ys c.args.place false false c.requires.fits h in
    cc

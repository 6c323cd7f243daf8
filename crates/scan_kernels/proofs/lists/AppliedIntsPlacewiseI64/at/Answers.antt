use Rattle.std.proofs.Common.{arith, rules, ◌≡◌, ◌<◌, pos, get_or, length, w64, to_z, of_z, ℤ}
use Rattle.std.proofs.lemmas.Int.{ints}
use Rattle.item_operations.specs.IntegerOps.{apply_z}
use Rattle.scan_kernels.proofs.Placed.{paired_get, paired_long}
use Rattle.scan_kernels.proofs.lists.AppliedIntsPlacewiseI64.at.Goals as goal

pub returns : goal.returns
returns c =
    let f : ℤ × ℤ → ℤ = λ p. apply_z c.args.self.now.op p.0 p.1 in
    let xs = c.args.self.now.left.now in
    let ys = c.args.self.now.right.now in
    let i = c.args.place in
    let h : i < length xs = omega (arith, paired_long f xs ys c.requires.fits.0, c.requires.place) in
    let x : to_z w64 (of_z w64 (get_or xs i (pos 0))) ≡ get_or xs i (pos 0) = search (rules, ints) in
    let y : to_z w64 (of_z w64 (get_or ys i (pos 0))) ≡ get_or ys i (pos 0) = search (rules, ints) in
    let kept : to_z w64 (of_z w64 c.apply.result) ≡ c.apply.result = search (rules, ints) in
    let there = paired_get f xs ys i (pos 0) (pos 0) c.requires.fits.0 h in
    cc

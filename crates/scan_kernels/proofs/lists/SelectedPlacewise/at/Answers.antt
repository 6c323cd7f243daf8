use Rattle.std.proofs.Common.{arith, ◌<◌, length}
use Rattle.scan_kernels.proofs.Placed.{chosen_at, chosen_long}
use Rattle.scan_kernels.proofs.lists.SelectedPlacewise.at.Goals as goal

pub returns : goal.returns
returns g c =
    let flags = c.args.self.now.flags.now in
    let xs = c.args.self.now.set.now in
    let ys = c.args.self.now.unset.now in
    let h : c.args.place < length flags = omega (arith, chosen_long flags xs ys c.requires.fits.0 c.requires.fits.1, c.requires.place) in
    let there = chosen_at flags xs ys c.args.place c.index-self-place.result c.index-self-place-2.result c.requires.fits.0 c.requires.fits.1 h c.index-self-place.is c.index-self-place-2.is in
    cc

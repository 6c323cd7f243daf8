use Rattle.std.proofs.Common.{arith, rules, ◌<◌, length}
use Rattle.scan_kernels.proofs.SegmentMoves.{read_many}
use Rattle.scan_kernels.proofs.moves_by_segments.GatheredSegmentsSegmentwise.next.Goals as goal

pub offset_bounds-self-number : goal.offset_bounds-self-number
offset_bounds-self-number g c =
    let l = c.args.self.now in
    let many = read_many l.source.now l.items.now l.by.now l.index.now c.requires.fits.2 in
    let h : c.args.number < length l.source.now = omega (arith, c.requires.fits.2) in
    search rules

pub bounds-self-number : goal.bounds-self-number
bounds-self-number g c =
    let l = c.args.self.now in
    omega (arith, read_many l.source.now l.items.now l.by.now l.index.now c.requires.fits.2, c.requires.fits.2)

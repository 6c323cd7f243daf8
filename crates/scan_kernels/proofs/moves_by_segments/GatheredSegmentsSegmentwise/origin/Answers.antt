use Rattle.std.proofs.Common.{arith, sym}
use Rattle.std.proofs.lemmas.List.{length-take-le}
use Rattle.scan_kernels.proofs.SegmentMoves.{read_many}
use Rattle.scan_kernels.proofs.moves_by_segments.GatheredSegmentsSegmentwise.origin.Goals as goal

pub slice_bounds-total-end : goal.slice_bounds-total-end
slice_bounds-total-end g c =
    let l = c.args.self.now in
    let many = read_many l.source.now l.items.now l.by.now l.index.now c.requires.fits.2 in
    sym (length-take-le c.args.number l.source.now (omega (arith, c.requires.fits.2)))

use Rattle.scan_kernels.proofs.SegmentMoves.{read_lengths}
use Rattle.scan_kernels.proofs.moves_by_segments.GatheredSegmentsSegmentwise.lengths.Goals as goal

pub returns : goal.returns
returns g c =
    let l = c.args.self.now in
    read_lengths l.source.now l.items.now l.by.now l.index.now c.requires.2 c.requires.0 c.requires.1 c.requires.3

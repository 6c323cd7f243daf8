use Rattle.scan_kernels.proofs.SegmentMoves.{moved_lengths}
use Rattle.scan_kernels.proofs.moves_by_segments.PermutedSegmentsSegmentwise.lengths.Goals as goal

pub returns : goal.returns
returns g c =
    let l = c.args.self.now in
    moved_lengths l.lengths.now l.index.now l.items.now c.requires.1 c.requires.0 c.requires.2

use Rattle.std.proofs.Common.{ap, length, map, sum, sym, zip, ◌∙◌}
use Rattle.segment_desc.specs.Cut.{cut}
use Rattle.scan_kernels.specs.Permuted.{permuted}
use Rattle.scan_kernels.proofs.SegmentLists.{joined_map}
use Rattle.scan_kernels.proofs.SegmentMoves.{moved_lengths}
use Rattle.scan_kernels.proofs.SegmentRuns.{length-joined}
use Rattle.scan_kernels.proofs.moves_by_segments.PermutedSegmentsSegmentwise.count.Goals as goal

pub returns : goal.returns
returns g c =
    let l = c.args.self.now in
    sym (c.requires.1 ∙ c.requires.0)
    ∙ ap sum (moved_lengths l.lengths.now l.index.now l.items.now c.requires.1 c.requires.0 c.requires.2)
    ∙ sym (length-joined (map (λ p. permuted p.0 p.1) (zip (cut l.lengths.now l.index.now) (cut l.lengths.now l.items.now))))
    ∙ ap length (joined_map (λ p. permuted p.0 p.1) (zip (cut l.lengths.now l.index.now) (cut l.lengths.now l.items.now)))

use Rattle.std.proofs.Common.{ap, length, map, sum, sym, zip, ◌∙◌}
use Rattle.segment_desc.specs.Cut.{cut}
use Rattle.scan_kernels.specs.Gathered.{gathered}
use Rattle.scan_kernels.proofs.SegmentLists.{joined_map}
use Rattle.scan_kernels.proofs.SegmentMoves.{read_lengths}
use Rattle.scan_kernels.proofs.SegmentRuns.{length-joined}
use Rattle.scan_kernels.proofs.moves_by_segments.GatheredSegmentsSegmentwise.count.Goals as goal

pub returns : goal.returns
returns g c =
    let l = c.args.self.now in
    sym c.requires.1
    ∙ ap sum (read_lengths l.source.now l.items.now l.by.now l.index.now c.requires.2 c.requires.0 c.requires.1 c.requires.3)
    ∙ sym (length-joined (map (λ p. gathered p.1 p.0) (zip (cut l.source.now l.items.now) (cut l.by.now l.index.now))))
    ∙ ap length (joined_map (λ p. gathered p.1 p.0) (zip (cut l.source.now l.items.now) (cut l.by.now l.index.now)))

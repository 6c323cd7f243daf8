use Rattle.std.proofs.Common.{replicate}
use Rattle.std.proofs.lemmas.List.{length-replicate}
use Rattle.scan_kernels.proofs.SegmentLists.{lengths_are}
use Rattle.scan_kernels.proofs.fills_by_segments.DistributedSegmentwise.lengths.Goals as goal

pub returns : goal.returns
returns g c =
    lengths_are (λ p. replicate p.0 p.1) (λ l x. length-replicate l x) c.args.self.now.lengths.now c.args.self.now.values.now c.requires.0

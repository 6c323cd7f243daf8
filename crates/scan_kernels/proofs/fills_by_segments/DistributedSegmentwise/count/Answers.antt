use Rattle.std.proofs.Common.{sym, ◌∙◌}
use Rattle.scan_kernels.proofs.ResultLengths.{length-distributed}
use Rattle.scan_kernels.proofs.fills_by_segments.DistributedSegmentwise.count.Goals as goal

pub returns : goal.returns
returns g c = c.requires.1 ∙ sym (length-distributed c.args.self.now.lengths.now c.args.self.now.values.now c.requires.0)

use Rattle.std.proofs.Common.{◌∙◌}
use Rattle.scan_kernels.proofs.PackedChunks.{packed_lengths}
use Rattle.scan_kernels.proofs.packs_by_chunks.PackedSegmentwise.lengths.Goals as goal

pub returns : goal.returns
returns g c = c.requires.2 ∙ packed_lengths c.args.self.now.lengths.now c.args.self.now.flags.now c.args.self.now.items.now c.requires.1 c.requires.0

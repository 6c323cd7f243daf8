use Rattle.scan_kernels.proofs.PackedChunks.{joined_packed}
use Rattle.scan_kernels.proofs.packs_by_chunks.PackedSegmentwise.joins.Goals as goal

pub returns : goal.returns
returns g c = joined_packed c.args.self.now.lengths.now c.args.self.now.flags.now c.args.self.now.items.now c.requires.1 c.requires.0

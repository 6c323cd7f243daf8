use Rattle.std.proofs.Common.{sym, ◌∙◌}
use Rattle.scan_kernels.proofs.PackedLists.{length-packed}
use Rattle.scan_kernels.proofs.packs_by_chunks.PackedSegmentwise.count.Goals as goal

pub returns : goal.returns
returns g c = c.requires.3 ∙ sym (length-packed c.args.self.now.flags.now c.args.self.now.items.now c.requires.0)

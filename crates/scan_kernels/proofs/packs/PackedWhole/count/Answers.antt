use Rattle.std.proofs.Common.{sym, ◌∙◌}
use Rattle.scan_kernels.proofs.PackedLists.{length-packed}
use Rattle.scan_kernels.proofs.packs.PackedWhole.count.Goals as goal

pub returns : goal.returns
returns g c = c.requires.total ∙ sym (length-packed c.args.self.flags.now c.args.self.items.now c.requires.same_length)

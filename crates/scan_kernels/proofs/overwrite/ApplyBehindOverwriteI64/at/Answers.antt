use Rattle.std.proofs.Common.{rules, ℤ, pos, ◌∙◌}
use Rattle.item_operations.specs.IntegerOps.{apply_z}
use Rattle.scan_kernels.proofs.Placed.{paired_second}
use Rattle.scan_kernels.proofs.overwrite.ApplyBehindOverwriteI64.at.Goals as goal

pub returns : goal.returns
returns c = λ items fits there.
    paired_second (λ (p : ℤ × ℤ). apply_z c.args.self.now.op p.0 p.1) c.args.self.now.left.now items c.args.place (pos 0) c.args.item fits.0 there ∙ search rules

use Rattle.std.proofs.Common.{rules, ℤ, pos, ◌∙◌}
use Rattle.item_operations.specs.IntegerOps.{apply_z}
use Rattle.scan_kernels.proofs.Placed.{paired_first}
use Rattle.scan_kernels.proofs.overwrite.ApplyBeforeOverwriteI64.at.Goals as goal

pub returns : goal.returns
returns c = λ items fits there.
    paired_first (λ (p : ℤ × ℤ). apply_z c.args.self.now.op p.0 p.1) items c.args.self.now.right.now c.args.place c.args.item (pos 0) fits.0 there ∙ search rules

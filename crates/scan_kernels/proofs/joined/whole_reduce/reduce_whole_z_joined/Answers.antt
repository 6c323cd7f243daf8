use Rattle.std.proofs.Common.{◌∙◌}
use Rattle.item_operations.specs.IntegerScans.{combine_z, unit_z}
use Rattle.scan_kernels.proofs.Joining.{reduced-joined}
use Rattle.scan_kernels.proofs.joined.whole_reduce.reduce_whole_z_joined.Goals as goal

pub returns-clause-joined : goal.returns-clause-joined
returns-clause-joined g c =
    c.in_ok-made.ensures.parts ∙ reduced-joined (combine_z c.args.op) (unit_z c.args.op) (λ p. p.now) c.args.parts.now

use Rattle.std.proofs.Common.{◌∙◌}
use Rattle.item_operations.specs.BooleanScans.{combine_b, unit_b}
use Rattle.scan_kernels.proofs.Joining.{reduced-joined}
use Rattle.scan_kernels.proofs.joined.whole_reduce.reduce_whole_b_joined.Goals as goal

pub returns-clause-joined : goal.returns-clause-joined
returns-clause-joined g c =
    c.in_ok-made.ensures.parts ∙ reduced-joined (combine_b c.args.op) (unit_b c.args.op) (λ p. p.now) c.args.parts.now

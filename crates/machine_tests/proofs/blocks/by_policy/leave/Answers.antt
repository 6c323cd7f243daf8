use Rattle.std.proofs.Common.{ap}
use Rattle.combiner.specs.Standing.{Standing}
use Rattle.machine_tests.proofs.blocks.by_policy.leave.Goals as goal

pub returns-clause-left : goal.returns-clause-left
returns-clause-left c = (_, _, ap (λ (z : Standing). z.phase) c.in-Ok.ensures.left)

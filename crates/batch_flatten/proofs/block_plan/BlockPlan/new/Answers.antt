use Rattle.std.proofs.Common.{refl}
use Rattle.batch_flatten.proofs.BlockLemmas.{empty-block_plan}
use Rattle.batch_flatten.proofs.block_plan.BlockPlan.new.Goals as goal

pub returns-clause-plan : goal.returns-clause-plan
returns-clause-plan c = λ jobs. empty-block_plan _ jobs refl refl

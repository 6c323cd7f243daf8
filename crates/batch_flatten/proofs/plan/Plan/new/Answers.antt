use Rattle.std.proofs.Common.{refl}
use Rattle.batch_flatten.proofs.PlanLemmas.{empty-plan}
use Rattle.batch_flatten.proofs.plan.Plan.new.Goals as goal

pub returns-clause-plan : goal.returns-clause-plan
returns-clause-plan c = λ targets. empty-plan _ targets refl refl

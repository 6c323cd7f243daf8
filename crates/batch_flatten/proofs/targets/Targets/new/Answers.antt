use Rattle.std.proofs.Common.{refl}
use Rattle.batch_flatten.proofs.TargetLemmas.{empty-table}
use Rattle.batch_flatten.proofs.targets.Targets.new.Goals as goal

pub returns : goal.returns
returns c = λ at. empty-table _ at refl

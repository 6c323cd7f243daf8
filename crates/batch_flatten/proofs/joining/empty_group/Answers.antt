use Rattle.batch_flatten.proofs.RollLemmas.{below-none}
use Rattle.batch_flatten.proofs.joining.empty_group.Goals as goal

pub returns-clause-below : goal.returns-clause-below
returns-clause-below c = below-none

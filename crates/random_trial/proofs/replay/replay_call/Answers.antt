use Rattle.cvl_calls.proofs.BlockSteps.{steps_outside}
use Rattle.random_trial.proofs.replay.replay_call.Goals as goal

-- the memory that a step leaves is outside a block as it was before
pub returns : goal.returns
returns c = steps_outside _ _ _ _ c.in-Ok.ensures.ok c.requires

use Rattle.batch_flatten.specs.Targets.{IsTable, target_at, targets_of}
use Rattle.batch_flatten.proofs.targets.Targets.of.Given as goal

abbrev pub invariant-loop-place : goal.invariant-loop-place
invariant-loop-place l = IsTable l.targets (target_at (targets_of l.calls)) l.place

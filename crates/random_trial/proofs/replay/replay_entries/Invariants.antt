use Rattle.std.proofs.Common.{◌≡◌, None}
use Rattle.random_trial.proofs.replay.replay_entries.Given as goal

abbrev pub invariant-loop-place : goal.invariant-loop-place
invariant-loop-place l = l.memory.block ≡ None

use Rattle.std.proofs.Common.{◌≡◌, None}
use Rattle.random_trial.proofs.alone.replay_lines.Given as goal

abbrev pub invariant-loop-number : goal.invariant-loop-number
invariant-loop-number l = l.memory.block ≡ None

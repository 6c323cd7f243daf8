use Rattle.std.proofs.Common.{◌≡◌, ℕ, map, take}
use Rattle.cvl_text.specs.Tasks.{task_of}
use Rattle.batch_flatten.specs.BlockPlans.{is_in, is_suspect}
use Rattle.batch_flatten.proofs.block_plan.BlockPlan.suspects_of_all.Given as goal

abbrev pub invariant-loop-call : goal.invariant-loop-call
invariant-loop-call l = (i : ℕ) → is_in l.places i ≡ is_suspect l.self.holders i (map task_of (take l.call-index l.calls))

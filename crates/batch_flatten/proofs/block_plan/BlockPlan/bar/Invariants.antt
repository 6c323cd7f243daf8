use Rattle.std.proofs.Common.{◌≡◌, ℕ, ◌<◌, ◌≤◌, false, ◌||◌, map, get_or}
use Rattle.batch_flatten.specs.Waves.{asked, is_barred, tasks_of}
use Rattle.batch_flatten.specs.Plans.{placed}
use Rattle.batch_flatten.specs.BlockPlans.{bars_among, is_in}
use Rattle.batch_flatten.proofs.block_plan.BlockPlan.bar.Given as goal

-- What is barred so far, and what the places that are left bar, is what was barred before and what the first jobs bar.
abbrev pub invariant-loop-left : goal.invariant-loop-left
invariant-loop-left l = record {
  behind : (i : ℕ) → l.count ≤ i → is_in l.left i ≡ false;
  left : (w : ℕ) → w < 64 → (get_or l.barred w false || bars_among l.left (map asked l.requests) l.self.waves (tasks_of l.job) w l.count)
      ≡ (get_or l.fn.barred w false || is_barred (placed l.count l.self.waves l.requests) (tasks_of l.job) w);
}

abbrev pub decreases-loop-left : goal.decreases-loop-left
decreases-loop-left l = l.left

use Rattle.std.proofs.Common.{◌≡◌, ℕ, suc, ◌<◌, ◌≤◌, true, false, ◌||◌, get_or}
use Rattle.vector_memory.specs.Names.{bucket_of}
use Rattle.batch_flatten.specs.Plans.{bars, single_targets}
use Rattle.batch_flatten.specs.Targets.{lies_in, target_at}
use Rattle.batch_flatten.proofs.plan.Plan.bar.Given as goal

-- What is barred so far, and what the calls before the next one bar, is what was barred before and what all of them bar.
abbrev pub invariant-loop-next : goal.invariant-loop-next
invariant-loop-next l = record {
  within : l.next ≤ l.count;
  head : (j : ℕ) → l.next ≡ suc j → lies_in (bucket_of l.name) (target_at (single_targets l.requests) j) ≡ true;
  left : (w : ℕ) → w < 64 → (get_or l.barred w false || bars (single_targets l.requests) l.self.waves l.name w l.next) ≡ (get_or l.fn.barred w false || bars (single_targets l.requests) l.self.waves l.name w l.count);
}

abbrev pub decreases-loop-next : goal.decreases-loop-next
decreases-loop-next l = l.next

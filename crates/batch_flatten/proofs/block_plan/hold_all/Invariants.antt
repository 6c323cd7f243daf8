use Rattle.std.proofs.Common.{◌≡◌, ◌≢◌, ℕ, ◌||◌, map, take, get_or}
use Rattle.cvl_text.specs.Tasks.{task_of}
use Rattle.batch_flatten.specs.BlockPlans.{has_target_in, is_in}
use Rattle.batch_flatten.proofs.block_plan.hold_all.Given as goal

abbrev pub invariant-loop-call : goal.invariant-loop-call
invariant-loop-call l = record {
  here : (b : ℕ) → is_in (get_or l.holders b 0) l.place ≡ (is_in (get_or l.fn.holders b 0) l.place || has_target_in b (map task_of (take l.call-index l.calls)));
  others : (b i : ℕ) → i ≢ l.place → is_in (get_or l.holders b 0) i ≡ is_in (get_or l.fn.holders b 0) i;
}

use Rattle.std.proofs.Common.{◌≡◌, ◌≤◌, ◌-◌, ℕ, max, vec_len}
use Rattle.script_lines.specs.Readings.{lists_of, jobs_at}
use Rattle.script_lines.proofs.jobs.make_lists.Given as goal

abbrev pub invariant-loop-alloc : goal.invariant-loop-alloc
invariant-loop-alloc l = record {
  most : vec_len l.jobs ≤ max (vec_len l.fn.jobs) l.count;
  least : vec_len l.fn.jobs ≤ vec_len l.jobs;
  lists : (k : ℕ) → jobs_at k (lists_of l.jobs) ≡ jobs_at k (lists_of l.fn.jobs);
}

abbrev pub decreases-loop-alloc : goal.decreases-loop-alloc
decreases-loop-alloc l = l.count - vec_len l.jobs

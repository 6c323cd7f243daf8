use Rattle.std.proofs.Common.{◌≡◌, ◌-◌, ◌++◌, map, take, replicate}
use Rattle.batch_flatten.specs.Waves.{asked, waves_of}
use Rattle.batch_flatten.specs.BlockPlans.{IsBlockPlan}
use Rattle.batch_flatten.proofs.planning.waves_of_jobs.Given as goal

abbrev pub invariant-loop-i : goal.invariant-loop-i
invariant-loop-i l = record {
  made : l.plan.waves ≡ waves_of (map asked (take l.i l.requests)) ++ replicate (64 - l.i) 0;
  plan : IsBlockPlan l.plan (map asked l.requests) l.i;
}

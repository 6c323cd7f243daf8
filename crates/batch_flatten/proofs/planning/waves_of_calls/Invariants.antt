use Rattle.std.proofs.Common.{◌≡◌, ◌-◌, ◌++◌, map, take, replicate}
use Rattle.batch_flatten.specs.Waves.{asked, waves_of}
use Rattle.batch_flatten.specs.Plans.{AreSingle, IsPlan, single_targets}
use Rattle.batch_flatten.proofs.planning.waves_of_calls.Given as goal

abbrev pub invariant-loop-i : goal.invariant-loop-i
invariant-loop-i l = record {
  made : l.plan.waves ≡ waves_of (map asked (take l.i l.requests)) ++ replicate (64 - l.i) 0;
  plan : IsPlan l.plan (single_targets l.requests) l.i;
  single : AreSingle l.requests l.i;
}

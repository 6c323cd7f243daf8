use Rattle.std.proofs.Common.{◌≡◌, false, map, take}
use Rattle.cvl_text.specs.Tasks.{task_of}
use Rattle.batch_flatten.specs.Waves.{jobs_clash}
use Rattle.batch_flatten.proofs.targets.blocks_clash.Given as goal

abbrev pub invariant-loop-call : goal.invariant-loop-call
invariant-loop-call l = jobs_clash (map task_of l.earlier) (map task_of (take l.call-index l.later)) ≡ false

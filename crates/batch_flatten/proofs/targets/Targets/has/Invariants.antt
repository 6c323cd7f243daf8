use Rattle.batch_flatten.specs.Targets.{target_at, targets_of}
use Rattle.batch_flatten.proofs.TargetLemmas.{IsWalk}
use Rattle.batch_flatten.proofs.targets.Targets.has.Given as goal

abbrev pub invariant-loop-next : goal.invariant-loop-next
invariant-loop-next l = IsWalk l.self (target_at (targets_of l.calls)) l.count l.name l.next

abbrev pub decreases-loop-next : goal.decreases-loop-next
decreases-loop-next l = l.next

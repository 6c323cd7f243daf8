use Rattle.std.proofs.Common.{◌≡◌, ◌+◌, ◌≤◌, length}
use Rattle.std.specs.Prelude.{All, vec_len, vec_capacity}
use Rattle.std.specs.Vec.Iter.{into_iter_items}
use Rattle.script_main.specs.declared.work.Worked.{Worked}
use Rattle.script_main.proofs.MeetLemmas.{MetSoFar}
use Rattle.script_main.proofs.settle.meet_all.Given as goal

abbrev pub invariant-loop-worker : goal.invariant-loop-worker
invariant-loop-worker l =
    (vec_len l.all + length (into_iter_items l.worker-iterator) ≤ vec_capacity l.all)
    × All (λ (worked : Worked). worked.caller.machine ≡ l.machine) (into_iter_items l.worker-iterator)
    × (l.closer.machine ≡ l.machine) × MetSoFar l.fn.workers.items (into_iter_items l.worker-iterator) l.closer l.all.items

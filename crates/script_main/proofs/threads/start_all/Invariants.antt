use Rattle.std.proofs.Common.{◌≡◌, ◌+◌, ◌≤◌, List, ◌++◌, length}
use Rattle.std.specs.Prelude.{All, vec_len, vec_capacity}
use Rattle.std.specs.List.{AllZip}
use Rattle.std.specs.Vec.Iter.{into_iter_items}
use Rattle.script_main.specs.declared.threads.Worker.{Worker}
use Rattle.script_main.specs.Workers.{IsReady, IsStarted}
use Rattle.script_main.proofs.threads.start_all.Given as goal

abbrev pub invariant-loop-worker : goal.invariant-loop-worker
invariant-loop-worker g l =
    (vec_len l.started + length (into_iter_items l.worker-iterator) ≤ vec_capacity l.started)
    × All (IsReady l.shared l.bounds) (into_iter_items l.worker-iterator)
    × (done : List Worker) × (l.fn.workers.items ≡ done ++ into_iter_items l.worker-iterator)
    × AllZip (IsStarted l.gate l.shared l.bounds) done l.started.items

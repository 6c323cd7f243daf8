use Rattle.std.proofs.Common.{◌≡◌, ◌+◌, ◌≤◌, List, ◌++◌, length}
use Rattle.std.specs.Prelude.{vec_len, vec_capacity}
use Rattle.std.specs.List.{AllZip}
use Rattle.std.specs.Vec.Iter.{into_iter_items}
use Rattle.script_main.specs.declared.threads.Started.{Started}
use Rattle.script_main.specs.Workers.{IsJoined}
use Rattle.script_main.proofs.threads.join_all.Given as goal

abbrev pub invariant-loop-worker : goal.invariant-loop-worker
invariant-loop-worker g l =
    (vec_len l.ends + length (into_iter_items l.worker-iterator) ≤ vec_capacity l.ends)
    × (done : List (Started g.row.G.Denot)) × (l.fn.started.items ≡ done ++ into_iter_items l.worker-iterator)
    × AllZip (IsJoined g.G.Gate.may_answer) done l.ends.items

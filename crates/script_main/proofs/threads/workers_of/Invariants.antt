use Rattle.std.proofs.Common.{◌≡◌, ◌+◌, ◌≤◌, ◌++◌, length, map}
use Rattle.std.specs.Prelude.{vec_len, vec_capacity}
use Rattle.std.specs.Vec.Iter.{into_iter_items}
use Rattle.script_main.specs.declared.threads.Worker.{Worker}
use Rattle.script_main.proofs.threads.workers_of.Given as goal

abbrev pub invariant-loop-caller : goal.invariant-loop-caller
invariant-loop-caller l =
    (map (λ (worker : Worker). worker.caller) l.workers.items ++ into_iter_items l.caller-iterator ≡ l.fn.callers.items)
    × (map (λ (worker : Worker). worker.script) l.workers.items ++ into_iter_items l.scripts ≡ l.fn.scripts.items)
    × (length (into_iter_items l.caller-iterator) ≡ length (into_iter_items l.scripts))
    × (vec_len l.workers + length (into_iter_items l.caller-iterator) ≤ vec_capacity l.workers)

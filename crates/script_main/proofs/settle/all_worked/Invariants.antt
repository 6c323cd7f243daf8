use Rattle.std.proofs.Common.{◌≡◌, ◌+◌, ◌≤◌, ◌++◌, length, map, Ok}
use Rattle.std.specs.Prelude.{vec_len, vec_capacity}
use Rattle.std.specs.Vec.Iter.{into_iter_items}
use Rattle.script_main.proofs.settle.all_worked.Given as goal

abbrev pub invariant-loop-end : goal.invariant-loop-end
invariant-loop-end l =
    (vec_len l.workers + length (into_iter_items l.end-iterator) ≤ vec_capacity l.workers) × (l.fn.ends.items ≡ map Ok l.workers.items ++ into_iter_items l.end-iterator)

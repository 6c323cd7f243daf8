use Rattle.std.proofs.Common.{◌≡◌, ◌≤◌, take}
use Rattle.std.specs.List.{count_by}
use Rattle.request_slots.proofs.hand.marked.Given as goal

abbrev pub invariant-loop-k : goal.invariant-loop-k
invariant-loop-k l = record { counted : l.count ≡ count_by (λ mark. mark) (take l.k l.marks); few : l.count ≤ l.k }

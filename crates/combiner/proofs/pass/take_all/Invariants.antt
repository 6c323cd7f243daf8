use Rattle.std.proofs.Common.{◌≡◌, vec_capacity}
use Rattle.combiner.specs.Passes.{Taking}
use Rattle.combiner.proofs.pass.take_all.Given as goal

abbrev pub invariant-loop-i : goal.invariant-loop-i
invariant-loop-i l = Taking l.fn.seat l.seat l.i l.requests.items l.numbers × (l.seat.standing.machine ≡ l.slots) × (vec_capacity l.requests ≡ vec_capacity l.initial.requests)

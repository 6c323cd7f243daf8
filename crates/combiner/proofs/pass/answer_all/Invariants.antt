use Rattle.std.proofs.Common.{◌≡◌, ◌≤◌, length, vec_capacity}
use Rattle.combiner.specs.Passes.{Telling}
use Rattle.combiner.proofs.pass.answer_all.Given as goal

abbrev pub invariant-loop-outcome : goal.invariant-loop-outcome
invariant-loop-outcome l = Telling l.callers l.fn.seat l.seat l.outcomes.items l.numbers (length l.outcomes.items) × (l.seat.standing.machine ≡ l.slots) × (vec_capacity l.outcomes ≡ vec_capacity l.initial.outcomes) × (length l.outcomes.items ≤ 64)

abbrev pub decreases-loop-outcome : goal.decreases-loop-outcome
decreases-loop-outcome l = length l.outcomes.items

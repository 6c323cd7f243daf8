use Rattle.std.proofs.Common.{◌≡◌, ℕ, Option, Some, slice_get}
use Rattle.call_history.specs.declared.work.Work.{Work}
use Rattle.batch_flatten.proofs.joining.make_space.Given as goal

abbrev pub invariant-loop : goal.invariant-loop
invariant-loop l = (b : ℕ) (slot : Option Work) → slice_get l.fn.works.items b ≡ Some slot → slice_get l.works.items b ≡ Some slot

use Rattle.std.proofs.Common.{◌≡◌, ◌∷◌, replicate}
use Rattle.request_slots.specs.declared.desk.Slot.TheVariants.{Nothing, Kept}
use Rattle.request_slots.proofs.slots.homes_of.Given as goal

abbrev pub invariant-loop : goal.invariant-loop
invariant-loop l = l.homes.items ≡ Kept l.fn.desk ∷ replicate l.counter Nothing

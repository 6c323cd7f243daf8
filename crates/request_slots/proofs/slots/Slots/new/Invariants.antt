use Rattle.std.proofs.Common.{◌≡◌, [], map}
use Rattle.request_slots.specs.declared.known.View.TheVariants.{Maker}
use Rattle.request_slots.specs.Standing.{newcomers}
use Rattle.request_slots.specs.Views.{untold}
use Rattle.request_slots.proofs.slots.Slots.new.Given as goal

abbrev pub invariant-loop-k : goal.invariant-loop-k
invariant-loop-k l = (l.maker.table_id ≡ l.slots-inside.table.shared.table_id) × (l.maker.me ≡ (Maker l.bounds l.k, []))
    × (l.seats.items ≡ map untold (newcomers l.slots-inside.table.shared.table_id l.bounds l.k))

use Rattle.std.proofs.Common.{◌≡◌, ◌++◌, map}
use Rattle.std.specs.Prelude.{All}
use Rattle.std.specs.Vec.Iter.{into_iter_items}
use Rattle.combiner.specs.Standing.{standing, IsNewSeat}
use Rattle.combiner.proofs.caller.seat_all.Given as goal

abbrev pub invariant-loop-seat : goal.invariant-loop-seat
invariant-loop-seat l = (l.callers.items ++ map standing (into_iter_items l.seat-iterator) ≡ map standing l.fn.seats.items) × All IsNewSeat (into_iter_items l.seat-iterator)

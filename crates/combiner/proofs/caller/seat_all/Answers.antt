use Rattle.std.proofs.Common.{rules}
use Rattle.std.specs.Vec.Iter.{into_iter_items}
use Rattle.combiner.proofs.Seats.{given_next}
use Rattle.combiner.proofs.caller.seat_all.Goals as goal

pub loop-seat-preserved : goal.loop-seat-preserved
loop-seat-preserved c = rw c.in-Ok.ensures.items (given_next _ c.in-Some.seat (into_iter_items c.loop-seat.seat-iterator) (into_iter_items c.next.new.self) _ _ (search rules) c.seated.ensures c.loop-seat.invariant.0 c.loop-seat.invariant.1)

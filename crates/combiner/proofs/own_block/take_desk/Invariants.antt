use Rattle.std.proofs.Common.{◌≡◌, None}
use Rattle.combiner.specs.Own.{HasWaited}
use Rattle.combiner.proofs.own_block.take_desk.Given as goal

abbrev pub invariant-loop : goal.invariant-loop
invariant-loop g l = record {
  place : l.seat.standing.machine ≡ l.slots;
  no_desk : l.seat.pass ≡ None;
  waited : HasWaited l.fn.seat.standing l.seat.standing;
}

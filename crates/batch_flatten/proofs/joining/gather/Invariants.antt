use Rattle.std.proofs.Common.{◌+◌, ◌≤◌, List, Option, vec_len}
use Rattle.call_history.specs.declared.work.Work.{Work}
use Rattle.batch_flatten.specs.Places.{AreBelow}
use Rattle.batch_flatten.specs.Joining.{ArePrepared, ClosesOnly, IsClosed, IsGroup}
use Rattle.batch_flatten.proofs.joining.gather.Given as goal

abbrev pub invariant-loop-position : goal.invariant-loop-position
invariant-loop-position g l = record {
  group : IsGroup l.memory l.outcomes l.places l.words l.word l.group.positions l.group.judged.items;
  below : AreBelow 64 l.group.positions;
  few : vec_len l.group.judged + l.first ≤ l.position;
  closes : ClosesOnly l.words l.word l.fn.turns l.turns;
  closed : IsClosed l.words l.word l.turns l.first l.position;
  prepared : (works : List (Option Work)) → ArePrepared l.memory l.outcomes l.places l.words l.fn.turns works l.first → ArePrepared l.memory l.outcomes l.places l.words l.turns works l.first;
}

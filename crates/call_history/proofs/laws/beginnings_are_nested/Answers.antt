use Rattle.call_history.proofs.Beginnings.{begins_self, begins_trans, begins_shorter, take_begins}
use Rattle.call_history.proofs.laws.beginnings_are_nested.Goals as goal

pub returns : goal.returns
returns c = record {
  same = begins_self;
  longer = begins_trans;
  shorter = begins_shorter;
  first = take_begins;
}

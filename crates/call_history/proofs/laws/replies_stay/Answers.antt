use Rattle.vector_memory.specs.States.{empty}
use Rattle.call_history.proofs.Replays.{replies_from-append, length-replies_from, reply-at_place, last_reply-push}
use Rattle.call_history.proofs.laws.replies_stay.Goals as goal

pub returns : goal.returns
returns c = record {
  parts = replies_from-append;
  each = length-replies_from;
  at_place = λ bounds before after e. reply-at_place (empty bounds) before after e;
  last = last_reply-push;
}

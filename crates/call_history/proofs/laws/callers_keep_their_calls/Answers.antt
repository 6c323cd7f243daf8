use Rattle.call_history.proofs.CallerLemmas.{calls_by-append, calls_by-own, calls_by-other}
use Rattle.call_history.proofs.laws.callers_keep_their_calls.Goals as goal

pub returns : goal.returns
returns c = record {
  parts = calls_by-append;
  own = calls_by-own;
  others = calls_by-other;
}

use Rattle.std.proofs.Common.{◌≡◌, ◌+◌, ◌++◌, map, reverse, length, vec_len, vec_capacity}
use Rattle.call_history.specs.Fits.{returned}
use Rattle.batch_flatten.proofs.roll.hand_back.Given as goal

abbrev pub invariant-loop-request : goal.invariant-loop-request
invariant-loop-request l = record {
  handed : l.outcomes.items ++ map returned (reverse l.requests.items) ≡ map returned l.fn.requests.items;
  many : vec_len l.outcomes + vec_len l.requests ≡ vec_len l.fn.requests;
  request_spaces : vec_capacity l.requests ≡ vec_capacity l.fn.requests;
  outcome_spaces : vec_capacity l.outcomes ≡ vec_capacity l.fn.outcomes;
}

abbrev pub decreases-loop-request : goal.decreases-loop-request
decreases-loop-request l = length l.requests.items

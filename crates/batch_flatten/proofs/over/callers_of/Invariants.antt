use Rattle.std.proofs.Common.{◌≡◌, length, map, take, vec_len, vec_capacity}
use Rattle.batch_flatten.proofs.over.callers_of.Given as goal

abbrev pub invariant-loop-request : goal.invariant-loop-request
invariant-loop-request l = record {
  callers : l.callers.items ≡ map (λ r. r.caller) (take l.request-index l.requests);
  count : vec_len l.callers ≡ l.request-index;
  room : vec_capacity l.callers ≡ length l.requests;
}

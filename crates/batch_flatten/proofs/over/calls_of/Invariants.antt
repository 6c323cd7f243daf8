use Rattle.std.proofs.Common.{◌≡◌, length, map, take, vec_len, vec_capacity}
use Rattle.call_history.specs.declared.request.Job.TheVariants.{One}
use Rattle.batch_flatten.proofs.over.calls_of.Given as goal

abbrev pub invariant-loop-request : goal.invariant-loop-request
invariant-loop-request l = record {
  calls : map (λ c. One c.now) l.calls.items ≡ map (λ r. r.job) (take l.request-index l.requests);
  count : vec_len l.calls ≡ l.request-index;
  room : vec_capacity l.calls ≡ length l.requests;
}

use Rattle.std.proofs.Common.{◌≡◌, ◌+◌, vec_len, vec_capacity}
use Rattle.batch_flatten.proofs.emptying.empty.Given as goal

abbrev pub invariant-loop : goal.invariant-loop
invariant-loop l = record {
  left : vec_len l.requests + l.counter ≡ l.end;
  spaces : vec_capacity l.requests ≡ vec_capacity l.fn.requests;
}

use Rattle.std.proofs.Common.{◌≡◌, ◌≤◌, length, map, vec_len}
use Rattle.std.specs.List.{AllByRecursion, range_with_len}
use Rattle.call_history.specs.Fits.{IsLawfulJob}
use Rattle.batch_flatten.specs.Serving.{caller_of}
use Rattle.batch_tests.proofs.asking.batch_of.Given as goal

abbrev pub invariant-loop-line : goal.invariant-loop-line
invariant-loop-line g l = record {
  few : vec_len l.requests ≤ 64;
  callers : map caller_of l.requests.items ≡ range_with_len 0 (length l.requests.items);
  jobs : AllByRecursion (λ r. IsLawfulJob r.job) l.requests.items;
}

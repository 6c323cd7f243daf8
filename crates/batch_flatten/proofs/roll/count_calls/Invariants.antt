use Rattle.std.proofs.Common.{◌≡◌, ◌*◌, ◌≤◌, length, sum_by, take}
use Rattle.call_history.specs.Fits.{calls_of}
use Rattle.batch_flatten.proofs.roll.count_calls.Given as goal

abbrev pub invariant-loop-i : goal.invariant-loop-i
invariant-loop-i l = record {
  counted : l.calls ≡ sum_by (λ r. length (calls_of r.job)) (take l.i l.requests);
  few : l.calls ≤ l.i * 1024;
}

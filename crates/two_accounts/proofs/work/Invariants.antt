use Rattle.std.proofs.Common.{◌≡◌, ◌≤◌}
use Rattle.combiner.specs.Standing.{IsIdle}
use Rattle.two_accounts.proofs.work.Given as goal

abbrev pub invariant-loop-done : goal.invariant-loop-done
invariant-loop-done g l = record {
  machine : l.caller.machine ≡ l.shared;
  idle : IsIdle l.caller;
  few : l.whole ≤ l._done;
}

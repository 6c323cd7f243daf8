use Rattle.std.proofs.Common.{◌≡◌, length, map, take}
use Rattle.call_history.specs.Callers.{caller_limit}
use Rattle.batch_flatten.specs.Places.{AreBelow}
use Rattle.batch_flatten.specs.Serving.{caller_of}
use Rattle.batch_flatten.proofs.roll.callers_of.Given as goal

abbrev pub invariant-loop-i : goal.invariant-loop-i
invariant-loop-i l = record {
  noted : take l.i l.callers ≡ map caller_of (take l.i l.requests);
  lawful : AreBelow caller_limit l.callers;
  long : length l.callers ≡ 64;
}

use Rattle.std.proofs.Common.{◌≡◌, ◌+◌, ◌-◌, ◌<◌, ◌≤◌, drop, get_or, length, sum, take, true}
use Rattle.scan_kernels.specs.Marked.{all_set, each_within}
use Rattle.scan_kernels.proofs.chunks_within.part_within.Given as goal

abbrev pub invariant-loop-at : goal.invariant-loop-at
invariant-loop-at l = record {
  set : all_set (take (l.at - l.start) (drop l.start (each_within l.source l.by l.index))) ≡ true;
  started : l.start ≤ l.at;
  within : l.at ≤ l.end;
  begin : l.at < l.end → l.begin ≡ sum (take l.number l.by);
  behind : l.at < l.end → l.begin ≤ l.at;
  before : l.at < l.end → l.at ≤ l.begin + get_or l.by l.number 0;
  number : l.at < l.end → l.number < length l.by;
}

abbrev pub decreases-loop-at : goal.decreases-loop-at
decreases-loop-at l = length l.by - l.number

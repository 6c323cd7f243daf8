use Rattle.std.proofs.Common.{◌≡◌, ◌-◌, ◌≤◌, drop, sum, take, true}
use Rattle.scan_kernels.specs.Marked.{all_set, segmented_marks}
use Rattle.scan_kernels.proofs.chunks_marked.are_marked.Given as goal

abbrev pub invariant-loop-at : goal.invariant-loop-at
invariant-loop-at l = record {
  set : all_set (take (l.at - l.start) (drop l.start (segmented_marks l.marked.lengths.now l.marked.index.now))) ≡ true;
  started : l.start ≤ l.at;
  within : l.start ≤ l.end → l.at ≤ l.end;
  begin : l.segment.begin ≡ sum (take l.segment.number l.marked.lengths.now);
  behind : l.segment.begin ≤ l.at;
}

abbrev pub decreases-loop-at : goal.decreases-loop-at
decreases-loop-at l = l.end - l.at

use Rattle.std.proofs.Common.{length, ◌-◌, ◌≡◌, ◌+◌, ◌<◌, ◌≤◌, sum, take, drop, get_or}
use Rattle.scan_kernels.specs.Marked.{segmented_marks}
use Rattle.scan_kernels.proofs.chunks_marked.mark_segments.Given as goal

abbrev pub invariant-loop-done : goal.invariant-loop-done
invariant-loop-done l = record {
  made : take l.done l.block ≡ take l.done (drop l.start (segmented_marks l.marked.lengths.now l.marked.index.now));
  blank : drop l.done l.block ≡ drop l.done l.initial.block;
  within : l.done ≤ length l.initial.block;
  begin : l.done < length l.initial.block → l.begin ≡ sum (take l.number l.marked.lengths.now);
  behind : l.done < length l.initial.block → l.begin ≤ l.start + l.done;
  before : l.done < length l.initial.block → l.start + l.done ≤ l.begin + get_or l.marked.lengths.now l.number 0;
  number : l.done < length l.initial.block → l.number < length l.marked.lengths.now;
}

abbrev pub decreases-loop-done : goal.decreases-loop-done
decreases-loop-done l = length l.marked.lengths.now - l.number

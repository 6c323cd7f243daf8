use Rattle.std.proofs.Common.{length, ◌-◌, ◌≡◌, ◌+◌, ◌<◌, ◌≤◌, sum, take, drop, get_or}
use Rattle.segment_desc.specs.Cut.{joined}
use Rattle.scan_kernels.proofs.segmentwise.write_from_segment.Given as goal

abbrev pub invariant-loop-done : goal.invariant-loop-done
invariant-loop-done g l = record {
  made : take l.done l.part ≡ take l.done (drop l.start (joined (g.L.Segmentwise.segments l.list)));
  within : l.done ≤ length l.initial.part;
  begin : l.done < length l.initial.part → l.begin ≡ sum (take l.number l.lengths);
  behind : l.done < length l.initial.part → l.begin ≤ l.start + l.done;
  before : l.done < length l.initial.part → l.start + l.done ≤ l.begin + get_or l.lengths l.number 0;
  number : l.done < length l.initial.part → l.number < length l.lengths;
  origin : l.done < length l.initial.part → l.origin ≡ g.L.Segmentwise.origin_of l.list l.number;
}

abbrev pub decreases-loop-done : goal.decreases-loop-done
decreases-loop-done g l = length l.lengths - l.number

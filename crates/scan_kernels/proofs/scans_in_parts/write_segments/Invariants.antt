use Rattle.std.proofs.Common.{◌≡◌, ◌≤◌, ◌<◌, ◌+◌, ◌-◌, take, drop, length, sum, get_or}
use Rattle.std.specs.List.{fold}
use Rattle.scan_kernels.specs.Segmented.{segmented_scan}
use Rattle.scan_kernels.proofs.scans_in_parts.write_segments.Given as goal

abbrev pub invariant-loop-done : goal.invariant-loop-done
invariant-loop-done g l = record {
  made : take l.done l.part ≡ take l.done (drop l.start (segmented_scan (g.O.Combine.combined l.op) (g.O.Combine.unit_of l.op) l.lengths l.items));
  within : l.done ≤ length l.initial.part;
  begin : l.done < length l.initial.part → l.begin ≡ sum (take l.number l.lengths);
  behind : l.done < length l.initial.part → l.begin ≤ l.start + l.done;
  before : l.done < length l.initial.part → l.start + l.done ≤ l.begin + get_or l.lengths l.number 0;
  carry : l.done < length l.initial.part → l.carry ≡ fold (g.O.Combine.combined l.op) (g.O.Combine.unit_of l.op) (take (l.start + l.done - l.begin) (drop l.begin l.items));
}

abbrev pub decreases-loop-done : goal.decreases-loop-done
decreases-loop-done g l = length l.lengths - l.number

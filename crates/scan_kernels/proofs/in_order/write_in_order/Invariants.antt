use Rattle.std.proofs.Common.{◌≡◌, ◌≤◌, ◌-◌, length, take}
use Rattle.scan_kernels.proofs.in_order.write_in_order.Given as goal

abbrev pub invariant-loop-start : goal.invariant-loop-start
invariant-loop-start g l = record {
  done : take l.start l.list ≡ take l.start (g.R.Row.items l.row);
  within : l.start ≤ length l.list;
}

abbrev pub decreases-loop-start : goal.decreases-loop-start
decreases-loop-start g l = length l.initial.list - l.start

use Rattle.std.proofs.Common.{◌-◌, ◌≡◌, ◌+◌, ◌≤◌, ◌++◌, length, take, vec_len, vec_capacity}
use Rattle.scan_kernels.specs.Lists.{ints_of}
use Rattle.scan_kernels.proofs.pieces.put_pieces.Given as goal

abbrev pub invariant-loop-start : goal.invariant-loop-start
invariant-loop-start g l = record {
  items : l.made.items ++ take l.held l.last.items ≡ take l.start (ints_of l.row);
  capacity : vec_capacity l.made ≡ l.count;
  len : vec_len l.made + l.held ≡ l.start;
  held : l.held ≤ l.piece;
  last : length l.last.items ≡ l.piece;
  next : length l.next.items ≡ l.piece;
  within : l.start ≤ l.count;
}

abbrev pub decreases-loop-start : goal.decreases-loop-start
decreases-loop-start g l = l.count - l.start

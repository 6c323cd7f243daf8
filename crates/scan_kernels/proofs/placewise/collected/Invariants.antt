use Rattle.std.proofs.Common.{◌≡◌, take, vec_len, vec_capacity}
use Rattle.scan_kernels.proofs.placewise.collected.Given as goal

abbrev pub invariant-loop-place : goal.invariant-loop-place
invariant-loop-place g l = record {
  made : l.made.items ≡ take l.place (g.L.Placewise.items l.list);
  long : vec_len l.made ≡ l.place;
  room : vec_capacity l.made ≡ l.count;
}

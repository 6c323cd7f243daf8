use Rattle.std.proofs.Common.{◌≡◌, All, length, map, take, vec_len, vec_capacity}
use Rattle.scan_kernels.specs.Lists.{FitInts, ints_of}
use Rattle.scan_kernels.proofs.joined_rows.int_rows.Given as goal

abbrev pub invariant-loop-part : goal.invariant-loop-part
invariant-loop-part g l = record {
  items : map ints_of l.rows.items ≡ map (g.K.Kernel.makes l.kernel) (take l.part-index l.parts);
  fits : All FitInts l.rows.items;
  long : vec_len l.rows ≡ l.part-index;
  room : vec_capacity l.rows ≡ length l.parts;
}

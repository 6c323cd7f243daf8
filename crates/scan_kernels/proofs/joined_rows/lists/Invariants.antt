use Rattle.std.proofs.Common.{◌≡◌, All, length, vec_len, vec_capacity}
use Rattle.segment_desc.specs.Appended.{IsExact}
use Rattle.scan_kernels.specs.RowLists.{AreAsLong}
use Rattle.scan_kernels.proofs.joined_rows.lists.Given as goal

abbrev pub invariant-loop-row : goal.invariant-loop-row
invariant-loop-row g l = record {
  long : AreAsLong g.R.Row.items l.rows 0 l.lists.items;
  exact : All IsExact l.lists.items;
  count : vec_len l.lists ≡ l.row-index;
  room : vec_capacity l.lists ≡ length l.rows;
}

use Rattle.std.proofs.Common.{◌≡◌, ◌+◌, ◌<◌, ◌≤◌, ℕ, Vec, Global, length, slice_index_or, vec_capacity}
use Rattle.scan_kernels.proofs.row_lists.write_lists.Given as goal

abbrev pub invariant-loop-i : goal.invariant-loop-i
invariant-loop-i g l = record {
  count : length l.lists ≡ length l.initial.lists;
  items : (k : ℕ) (r : g.row.R.Denot) (v : Vec g.row.R-Item.Denot Global) → k < l.i → (slice_index_or l.lists k v).items ≡ g.R.Row.items (slice_index_or l.rows (l.start + k) r);
  space : (k : ℕ) (v : Vec g.row.R-Item.Denot Global) → k < length l.initial.lists → vec_capacity (slice_index_or l.lists k v) ≡ vec_capacity (slice_index_or l.initial.lists k v);
  rest : (k : ℕ) (v : Vec g.row.R-Item.Denot Global) → l.i ≤ k → k < length l.initial.lists → slice_index_or l.lists k v ≡ slice_index_or l.initial.lists k v;
}

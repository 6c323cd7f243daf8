use Rattle.std.proofs.Common.{◌≡◌, ◌-◌, ◌<◌, ◌≤◌, ℕ, Vec, Global, length, slice_index_or, vec_capacity}
use Rattle.scan_kernels.proofs.in_order.write_each_in_order.Given as goal

abbrev pub invariant-loop-start : goal.invariant-loop-start
invariant-loop-start g l = record {
  count : length l.lists ≡ length l.initial.lists;
  within : l.start ≤ length l.lists;
  items : (k : ℕ) (r : g.row.R.Denot) (v : Vec g.row.R-Item.Denot Global) → k < l.start → (slice_index_or l.lists k v).items ≡ g.R.Row.items (slice_index_or l.rows k r);
  space : (k : ℕ) (v : Vec g.row.R-Item.Denot Global) → k < l.start → vec_capacity (slice_index_or l.lists k v) ≡ vec_capacity (slice_index_or l.initial.lists k v);
  rest : (k : ℕ) (v : Vec g.row.R-Item.Denot Global) → l.start ≤ k → k < length l.initial.lists → slice_index_or l.lists k v ≡ slice_index_or l.initial.lists k v;
}

abbrev pub decreases-loop-start : goal.decreases-loop-start
decreases-loop-start g l = length l.initial.lists - l.start

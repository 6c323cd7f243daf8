use Rattle.std.proofs.Common.{◌≡◌, ◌+◌, ◌≤◌, ◌++◌, take, length, vec_len, vec_capacity}
use Rattle.std.specs.List.{flat_map}
use Rattle.cvl_text.proofs.writing.append_items.Given as goal

abbrev pub invariant-loop-item : goal.invariant-loop-item
invariant-loop-item g l = record {
  made : l.out.items ≡ l.fn.out.items ++ flat_map g.I.WriteItem.item_text (take l.item-index l.items);
  len : vec_len l.out ≡ vec_len l.fn.out + length (flat_map g.I.WriteItem.item_text (take l.item-index l.items));
  capacity : vec_capacity l.fn.out ≤ vec_capacity l.out;
}

use Rattle.std.proofs.Common.{◌≡◌, None, drop, map}
use Rattle.std.specs.Vec.Iter.{into_iter_items}
use Rattle.cvl_calls.specs.Alike.{HasRoomFor, filled}
use Rattle.cvl_calls.proofs.over.alike.give_each.Given as goal

-- the vectors that are left go to the names that are left as all of them go to all
abbrev pub invariant-loop-items : goal.invariant-loop-items
invariant-loop-items l = record {
  leads : filled l.memory (drop l.place l.names) (map (λ v. v.items) (into_iter_items l.items-iterator)) ≡ filled l.fn.memory l.names (map (λ v. v.items) l.fn.lists.items);
  room : HasRoomFor l.memory (drop l.place l.names) (map (λ v. v.items) (into_iter_items l.items-iterator));
  outside : l.memory.block ≡ None;
}

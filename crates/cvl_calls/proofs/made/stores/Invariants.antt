use Rattle.std.proofs.Common.{◌≡◌, ◌+◌, ◌≤◌, ◌++◌, length, map, vec_len, vec_capacity}
use Rattle.cvl_calls.specs.Outcomes.{Stores, effect_of}
use Rattle.cvl_calls.proofs.made.stores.Given as goal

abbrev pub invariant-loop-items : goal.invariant-loop-items
invariant-loop-items g l = record {
  makes : map effect_of l.products.items ++ map (λ v. Stores (g.T.Stored.content v.items)) l.items-iterator.rest.items ≡ map (λ v. Stores (g.T.Stored.content v.items)) l.initial.items-iterator.rest.items;
  room : vec_len l.products + length l.items-iterator.rest.items ≤ vec_capacity l.products;
}

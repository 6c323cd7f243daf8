use Rattle.std.proofs.Common.{◌≡◌, All, Ok, map, take, vec_len, vec_capacity}
use Rattle.cvl_calls.specs.Outcomes.{Stores}
use Rattle.cvl_calls.proofs.joining.parts.parts_of.Given as goal

abbrev pub invariant-loop-place : goal.invariant-loop-place
invariant-loop-place g l = record {
  takes : All (g.K.Kernel.Takes l.kernel) l.parts.items;
  makes : map (λ part. Ok (Stores (g.T.Stored.content (g.K.Kernel.makes l.kernel part)))) l.parts.items ≡ take l.place (g.G.Group.works l.group);
  long : vec_len l.parts ≡ l.place;
  room : vec_capacity l.parts ≡ l.count;
}

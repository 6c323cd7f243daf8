use Rattle.std.proofs.Common.{◌≡◌, All, Ok, length, map, take}
use Rattle.cvl_calls.specs.Outcomes.{Stores}
use Rattle.cvl_calls.proofs.joining.parts.put_others.Given as goal

abbrev pub invariant-loop-place : goal.invariant-loop-place
invariant-loop-place g l = record {
  takes : All (g.K.Kernel.Takes l.kernel) l.parts;
  makes : map (λ part. Ok (Stores (g.T.Stored.content (g.K.Kernel.makes l.kernel part)))) l.parts ≡ take l.place (g.G.Group.works l.group);
  long : length l.parts ≡ l.place;
}

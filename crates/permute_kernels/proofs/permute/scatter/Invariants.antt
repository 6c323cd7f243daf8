use Rattle.permute_kernels.proofs.Placing.{PlacedBefore}
use Rattle.permute_kernels.proofs.permute.scatter.Given as goal

abbrev pub invariant-loop-i : goal.invariant-loop-i
invariant-loop-i g l = PlacedBefore l.index l.items l.i l.made

use Rattle.std.proofs.Common.{◌≡◌, length}
use Rattle.scan_kernels.proofs.MarkedPlaces.{PartMarked}
use Rattle.scan_kernels.proofs.marks.mark_blocks.Given as goal

abbrev pub invariant-loop-rest : goal.invariant-loop-rest
invariant-loop-rest l = record {
  long : length l.part ≡ length l.initial.part;
  marked : PartMarked l.index l.start l.rest l.part;
}

abbrev pub decreases-loop-rest : goal.decreases-loop-rest
decreases-loop-rest l = length l.rest

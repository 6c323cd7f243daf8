use Rattle.std.proofs.Common.{◌≡◌, length}
use Rattle.scan_kernels.proofs.PartMoves.{PartPlaced}
use Rattle.scan_kernels.proofs.moves.Permuted.write.Given as goal

abbrev pub invariant-loop-i : goal.invariant-loop-i
invariant-loop-i g l = record {
  long : length l.part ≡ length l.initial.part;
  placed : PartPlaced l.self.index.now l.self.items.now l.start l.i l.part;
}

use Rattle.std.proofs.Common.{◌≡◌, length}
use Rattle.scan_kernels.specs.Packed.{number_set}
use Rattle.permute_kernels.proofs.Marking.{Marks}
use Rattle.permute_kernels.proofs.conditions.holds_each_once.Given as goal

abbrev pub invariant-loop-held : goal.invariant-loop-held
invariant-loop-held l = record {
  long : length l.seen ≡ length l.index;
  marks : Marks l.index l.held-index l.seen;
  number : number_set l.seen ≡ l.held-index;
}

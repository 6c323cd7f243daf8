use Rattle.std.proofs.Common.{◌≡◌, length, take, sum, zip}
use Rattle.std.specs.List.{AllZip}
use Rattle.segment_desc.specs.Cut.{cut}
use Rattle.scan_kernels.specs.Permuted.{IsPermuted}
use Rattle.permute_kernels.proofs.permute.scatter_each.Given as goal

abbrev pub invariant-loop-length : goal.invariant-loop-length
invariant-loop-length g l = record {
  place : l.at ≡ sum (take l.length-index l.lengths);
  long : length l.made ≡ length l.items;
  done : AllZip (λ p ys. IsPermuted p.0 p.1 ys) (zip (cut (take l.length-index l.lengths) l.index) (cut (take l.length-index l.lengths) l.items)) (cut (take l.length-index l.lengths) l.made);
}

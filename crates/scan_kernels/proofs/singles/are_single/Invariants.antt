use Rattle.std.proofs.Common.{◌≡◌, ◌↔◌, All, take}
use Rattle.scan_kernels.proofs.singles.are_single.Given as goal

abbrev pub invariant-loop-length : goal.invariant-loop-length
invariant-loop-length l = (l.others ≡ 0) ↔ All (λ n. n ≡ 1) (take l.length-index l.lengths)

use Rattle.std.proofs.Common.{◌≡◌, ◌*◌, min, take, sum}
use Rattle.scan_kernels.proofs.reductions_by_chunks.cut_evenly.Given as goal

abbrev pub invariant-loop-k : goal.invariant-loop-k
invariant-loop-k l = sum (take l.k l.lengths) ≡ min (l.k * l.size) l.count

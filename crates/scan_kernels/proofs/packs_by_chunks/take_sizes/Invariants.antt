use Rattle.std.proofs.Common.{◌≡◌, map, take, unsigned_abs}
use Rattle.scan_kernels.proofs.packs_by_chunks.take_sizes.Given as goal

abbrev pub invariant-loop-k : goal.invariant-loop-k
invariant-loop-k l = take l.k l.numbers ≡ map unsigned_abs (take l.k l.integers)

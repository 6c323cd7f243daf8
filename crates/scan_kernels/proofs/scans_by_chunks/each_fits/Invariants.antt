use Rattle.std.proofs.Common.{ℕ, ◌<◌, pos, get_or, SFits, w64}
use Rattle.scan_kernels.proofs.scans_by_chunks.each_fits.Given as goal

abbrev pub invariant-loop-item : goal.invariant-loop-item
invariant-loop-item l = (k : ℕ) → k < l._item-index → SFits w64 (get_or l.items k (pos 0))

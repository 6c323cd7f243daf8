use Rattle.std.proofs.Common.{ℤ, ◌≡◌, ◌<◌, ℕ, Vec, Global, length, slice_index_or}
use Rattle.scan_kernels.specs.declared.rows.IntRow.{IntRow}
use Rattle.scan_kernels.specs.Lists.{ints_of}
use Rattle.scan_kernels.proofs.joined_over.are_as_long.Given as goal

-- the vectors so far are as long as their rows
abbrev pub invariant-loop-place : goal.invariant-loop-place
invariant-loop-place l = (k : ℕ) (r : IntRow) (v : Vec ℤ Global) → k < l.place → length (slice_index_or l.lists k v).items ≡ length (ints_of (slice_index_or l.rows k r))

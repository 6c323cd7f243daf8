use Rattle.std.proofs.Common.{◌≡◌, ℕ, ◌+◌, ◌<◌, ◌≤◌, count_by, length, take}
use Rattle.std.specs.Prelude.{nat_eq}
use Rattle.scan_kernels.specs.Indices.{times_held}
use Rattle.scan_kernels.proofs.marks.sort_out.Given as goal

abbrev pub invariant-loop-held : goal.invariant-loop-held
invariant-loop-held l = record {
  few : l.count ≤ l.held-index;
  long : length l.fallen ≡ length l.initial.fallen;
  fallen : (j : ℕ) → j < l.many → count_by (λ b. nat_eq b j) (take l.count l.fallen) ≡ times_held (l.start + j) (take l.held-index l.index);
}

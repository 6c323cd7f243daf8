use Rattle.std.proofs.Common.{◌≡◌, ℕ, ◌<◌, count_by, false, get_or, length, take}
use Rattle.std.specs.Prelude.{nat_eq, nat_lt, ◌||◌}
use Rattle.scan_kernels.proofs.marks.mark_each.Given as goal

abbrev pub invariant-loop-place : goal.invariant-loop-place
invariant-loop-place l = record {
  long : length l.part ≡ length l.initial.part;
  marked : (j : ℕ) → j < length l.part → get_or l.part j false ≡ (get_or l.initial.part j false || nat_lt 0 (count_by (λ b. nat_eq b j) (take l.place-index l.places)));
}

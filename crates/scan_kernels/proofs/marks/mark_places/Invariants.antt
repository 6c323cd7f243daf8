use Rattle.std.proofs.Common.{◌≡◌, ℕ, ◌<◌, false, get_or, length, take}
use Rattle.std.specs.Prelude.{nat_lt, ◌||◌}
use Rattle.scan_kernels.specs.Indices.{times_held}
use Rattle.scan_kernels.proofs.marks.mark_places.Given as goal

abbrev pub invariant-loop-held : goal.invariant-loop-held
invariant-loop-held l = record {
  long : length l.part ≡ length l.initial.part;
  marked : (j : ℕ) → j < length l.part → get_or l.part j false ≡ (get_or l.initial.part j false || nat_lt 0 (times_held j (take l.held-index l.index)));
}

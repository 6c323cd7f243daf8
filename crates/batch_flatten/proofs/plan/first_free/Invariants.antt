use Rattle.std.proofs.Common.{◌≡◌, ℕ, ◌<◌, true, false, get_or}
use Rattle.batch_flatten.proofs.plan.first_free.Given as goal

abbrev pub invariant-loop-wave : goal.invariant-loop-wave
invariant-loop-wave l = (v : ℕ) → v < l.wave → get_or l.barred v false ≡ true

use Rattle.std.proofs.Common.{◌≡◌, All, length, sum, take}
use Rattle.kernel_tests.proofs.permutes.joined.assert_totals.Given as goal

abbrev pub invariant-loop-part : goal.invariant-loop-part
invariant-loop-part g l = All (λ p. sum p.1.now ≡ length p.0.now) (take l.part-index l.parts)

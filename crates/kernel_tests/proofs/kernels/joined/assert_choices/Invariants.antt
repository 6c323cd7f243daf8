use Rattle.std.proofs.Common.{◌≡◌, All, length, take}
use Rattle.kernel_tests.proofs.kernels.joined.assert_choices.Given as goal

abbrev pub invariant-loop-part : goal.invariant-loop-part
invariant-loop-part g l = All (λ p. (length p.0.now ≡ length p.1.now) × (length p.0.now ≡ length p.2.now)) (take l.part-index l.parts)

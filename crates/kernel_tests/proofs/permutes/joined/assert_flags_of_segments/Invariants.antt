use Rattle.std.proofs.Common.{◌≡◌, All, length, take}
use Rattle.kernel_tests.proofs.permutes.joined.assert_flags_of_segments.Given as goal

abbrev pub invariant-loop-part : goal.invariant-loop-part
invariant-loop-part g l = All (λ p. length p.1.now ≡ length p.0.now) (take l.part-index l.parts)

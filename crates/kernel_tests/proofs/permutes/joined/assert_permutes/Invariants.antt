use Rattle.std.proofs.Common.{◌≡◌, All, length, sum, take}
use Rattle.scan_kernels.specs.Indices.{PermuteSegments}
use Rattle.kernel_tests.proofs.permutes.joined.assert_permutes.Given as goal

abbrev pub invariant-loop-part : goal.invariant-loop-part
invariant-loop-part g l = All (λ p. (length p.1.now ≡ length p.0.now) × (sum p.2.now ≡ length p.1.now) × PermuteSegments p.2.now p.1.now) (take l.part-index l.parts)

use Rattle.std.proofs.Common.{◌≡◌, All, length, take}
use Rattle.scan_kernels.specs.Indices.{HoldsEachPlaceOnce}
use Rattle.kernel_tests.proofs.permutes.joined.assert_permutes_whole.Given as goal

abbrev pub invariant-loop-part : goal.invariant-loop-part
invariant-loop-part g l = All (λ p. (length p.1.now ≡ length p.0.now) × HoldsEachPlaceOnce p.1.now) (take l.part-index l.parts)

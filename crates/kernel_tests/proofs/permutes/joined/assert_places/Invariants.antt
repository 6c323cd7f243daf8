use Rattle.std.proofs.Common.{All, length, take}
use Rattle.scan_kernels.specs.Indices.{IsPlaceOf}
use Rattle.kernel_tests.proofs.permutes.joined.assert_places.Given as goal

abbrev pub invariant-loop-part : goal.invariant-loop-part
invariant-loop-part g l = All (λ p. All (IsPlaceOf (length p.0.now)) p.1.now) (take l.part-index l.parts)

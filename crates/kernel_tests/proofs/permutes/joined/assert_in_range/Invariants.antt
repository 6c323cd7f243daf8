use Rattle.std.proofs.Common.{◌≡◌, All, length, sum, take}
use Rattle.scan_kernels.specs.Indices.{LieWithin}
use Rattle.kernel_tests.proofs.permutes.joined.assert_in_range.Given as goal

abbrev pub invariant-loop-part : goal.invariant-loop-part
invariant-loop-part g l = All (λ p. (sum p.1.now ≡ length p.0.now) × (sum p.3.now ≡ length p.2.now) × (length p.1.now ≡ length p.3.now) × LieWithin p.1.now p.3.now p.2.now) (take l.part-index l.parts)

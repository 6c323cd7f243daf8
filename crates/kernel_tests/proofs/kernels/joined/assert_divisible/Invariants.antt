use Rattle.std.proofs.Common.{◌≡◌, All, length, take}
use Rattle.item_operations.specs.declared.operation.Z2.TheVariants.{Div}
use Rattle.item_operations.specs.IntegerOps.{IsAllowed}
use Rattle.kernel_tests.proofs.kernels.joined.assert_divisible.Given as goal

abbrev pub invariant-loop-part : goal.invariant-loop-part
invariant-loop-part g l = All (λ p. (length p.0.now ≡ length p.1.now) × All (IsAllowed Div) p.1.now) (take l.part-index l.parts)

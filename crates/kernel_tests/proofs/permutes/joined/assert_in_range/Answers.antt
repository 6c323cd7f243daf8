use Rattle.std.proofs.Common.{◌≡◌, All, length, sum, subst, arith, rules}
use Rattle.std.proofs.lemmas.List.{take_all}
use Rattle.std.proofs.lemmas.List.Elements.{All-more}
use Rattle.scan_kernels.specs.Indices.{LieWithin}
use Rattle.kernel_tests.proofs.permutes.joined.assert_in_range.Goals as goal

pub loop-part-preserved : goal.loop-part-preserved
loop-part-preserved g c =
    All-more (λ p. (sum p.1.now ≡ length p.0.now) × (sum p.3.now ≡ length p.2.now) × (length p.1.now ≡ length p.3.now) × LieWithin p.1.now p.3.now p.2.now) c.args.parts.now c.loop-part.part-index c.part-item.result (omega arith) c.loop-part.invariant
    (subst (λ p. (sum p.1.now ≡ length p.0.now) × (sum p.3.now ≡ length p.2.now) × (length p.1.now ≡ length p.3.now) × LieWithin p.1.now p.3.now p.2.now) c.part-item.is (omega arith, omega arith, omega arith, c.in_range.ensures.0 (search rules)))

pub returns : goal.returns
returns g c =
    subst (All (λ p. (sum p.1.now ≡ length p.0.now) × (sum p.3.now ≡ length p.2.now) × (length p.1.now ≡ length p.3.now) × LieWithin p.1.now p.3.now p.2.now)) (take_all c.loop-part.part-index c.args.parts.now c.loop-part-test.false) c.loop-part.invariant

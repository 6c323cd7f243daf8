use Rattle.std.proofs.Common.{◌≡◌, All, length, subst, arith, rules}
use Rattle.std.proofs.lemmas.List.{take_all}
use Rattle.std.proofs.lemmas.List.Elements.{All-more}
use Rattle.scan_kernels.specs.Indices.{HoldsEachPlaceOnce}
use Rattle.kernel_tests.proofs.permutes.joined.assert_permutes_whole.Goals as goal

pub loop-part-preserved : goal.loop-part-preserved
loop-part-preserved g c =
    All-more (λ p. (length p.1.now ≡ length p.0.now) × HoldsEachPlaceOnce p.1.now) c.args.parts.now c.loop-part.part-index c.part-item.result (omega arith) c.loop-part.invariant
    (subst (λ p. (length p.1.now ≡ length p.0.now) × HoldsEachPlaceOnce p.1.now) c.part-item.is (omega arith, c.in-Ok.ensures.0 (search rules)))

pub returns : goal.returns
returns g c =
    subst (All (λ p. (length p.1.now ≡ length p.0.now) × HoldsEachPlaceOnce p.1.now)) (take_all c.loop-part.part-index c.args.parts.now c.loop-part-test.false) c.loop-part.invariant

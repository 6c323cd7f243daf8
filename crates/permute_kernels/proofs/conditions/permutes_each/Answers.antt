use Rattle.std.proofs.Common.{IsTrue, arith, rules, subst}
use Rattle.std.proofs.lemmas.List.{take_all}
use Rattle.scan_kernels.proofs.NextSegment.{sum-take_more}
use Rattle.scan_kernels.specs.Indices.{HoldsEachPlaceOnce, PermuteSegments}
use Rattle.scan_kernels.proofs.Segments.{All_segment, All-cut_more}
use Rattle.permute_kernels.proofs.conditions.permutes_each.Goals as goal

pub returns-then-not-holds_each_once : goal.returns-then-not-holds_each_once
unfolding PermuteSegments
returns-then-not-holds_each_once c =
    ((λ h. absurd cc), λ h. subst IsTrue c.if-not-holds_each_once.true (c.holds_each_once.ensures.1 (All_segment HoldsEachPlaceOnce c.args.lengths.now c.loop-length.length-index c.loop-length.at c.args.index.now h c.loop-length-test.true c.loop-length.invariant.place)))

pub loop-length-preserved : goal.loop-length-preserved
unfolding PermuteSegments
loop-length-preserved c =
    let ls = c.args.lengths.now in
    let i = c.loop-length.length-index in
    let total = sum-take_more ls i c.loop-length-test.true in
    record {
      place = omega arith;
      each = All-cut_more HoldsEachPlaceOnce ls i c.loop-length.at c.args.index.now c.loop-length.invariant.each c.loop-length-test.true c.loop-length.invariant.place (c.holds_each_once.ensures.0 c.if-not-holds_each_once.false);
    }

pub returns : goal.returns
returns c =
    ((λ h. subst (λ ls. PermuteSegments ls c.args.index.now) (take_all c.loop-length.length-index c.args.lengths.now c.loop-length-test.false) c.loop-length.invariant.each), λ h. search rules)

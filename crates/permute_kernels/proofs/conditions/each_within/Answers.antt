use Rattle.std.proofs.Common.{IsTrue, arith, subst, rules}
use Rattle.scan_kernels.proofs.NextSegment.{sum-take_more}
use Rattle.permute_kernels.proofs.Gathering.{within_at, within_more, within_all}
use Rattle.permute_kernels.proofs.conditions.each_within.Goals as goal

pub returns-then-not-are_places : goal.returns-then-not-are_places
returns-then-not-are_places c =
    ((λ h. absurd cc), λ h. subst IsTrue c.if-not-are_places.true (c.are_places.ensures.1 (within_at c.args.source.now c.args.by.now c.loop-j.j c.loop-j.at c.args.index.now h c.loop-j-test.true c.requires.counts c.loop-j.invariant.place)))

pub loop-j-preserved : goal.loop-j-preserved
loop-j-preserved c =
    let total = sum-take_more c.args.by.now c.loop-j.j c.loop-j-test.true in
    record {
      place = omega arith;
      each = within_more c.args.source.now c.args.by.now c.loop-j.j c.loop-j.at c.args.index.now c.loop-j.invariant.each c.loop-j-test.true c.requires.counts c.loop-j.invariant.place (c.are_places.ensures.0 c.if-not-are_places.false);
    }

pub returns : goal.returns
returns c = ((λ h. within_all c.args.source.now c.args.by.now c.loop-j.j c.loop-j.at c.args.index.now c.loop-j.invariant.each c.loop-j-test.false c.requires.counts), λ h. search rules)

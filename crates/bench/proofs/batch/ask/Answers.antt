use Rattle.std.proofs.Common.{arith, refl, rules, subst, sym}
use Rattle.bench.proofs.AskLemmas.{AreCallersBelow, AreDistinct, AreLawful, asked-more, below-more, distinct-none}
use Rattle.bench.proofs.batch.ask.Goals as goal

pub loop-k-init : goal.loop-k-init
loop-k-init c = record {
  count = c.clear.ensures.len;
  below = subst (AreCallersBelow 0) (sym c.clear.ensures.items) tt;
  distinct = subst AreDistinct (sym c.clear.ensures.items) distinct-none;
  lawful = subst AreLawful (sym c.clear.ensures.items) tt;
}

pub loop-k-preserved : goal.loop-k-preserved
loop-k-preserved c =
    let inv = c.loop-k.invariant in
    let pushed = asked-more c.loop-k.k c.loop-k.requests.items c.push.new.self.items _ c.in-Ok.ensures.items refl inv.below inv.distinct inv.lawful tt in
    record {
      count = search rules;
      below = pushed.0;
      distinct = pushed.1;
      lawful = pushed.2;
    }

pub returns-clause-few : goal.returns-clause-few
returns-clause-few c =
    let count = c.loop-k.invariant.count in
    let few = c.args.calls.now.few in
    let far = c.loop-k.auto.k-end in
    let long = c.len-k-end.ensures in
    omega arith

pub returns-clause-lawful : goal.returns-clause-lawful
returns-clause-lawful c =
    let few = c.args.calls.now.few in
    let far = c.loop-k.auto.k-end in
    let long = c.len-k-end.ensures in
    below-more c.loop-k.k 64 c.loop-k.requests.items (omega arith) c.loop-k.invariant.below

pub returns-clause-distinct : goal.returns-clause-distinct
returns-clause-distinct c = c.loop-k.invariant.distinct

pub returns-clause-jobs : goal.returns-clause-jobs
returns-clause-jobs c = c.loop-k.invariant.lawful

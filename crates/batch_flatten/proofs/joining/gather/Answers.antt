use Rattle.std.proofs.Common.{arith, rules, ◌≡◌, length, vec_len}
use Rattle.batch_flatten.specs.Joining.{word_at}
use Rattle.batch_flatten.proofs.JoinLemmas.{closed-kept, closed-more, closes-both, closes-same, group-none}
use Rattle.batch_flatten.proofs.joining.gather.Goals as goal

pub loop-position-init : goal.loop-position-init
loop-position-init g c =
    let ws = c.args.words.now in
    let word = word_at ws c.args.first in
    let none = c.empty_group-group.ensures.judged in
    let count : vec_len c.empty_group-group.result.judged ≡ length c.empty_group-group.result.judged.items = search rules in
    record {
      group = group-none c.args.memory.now c.args.outcomes.now c.args.places.now ws word c.empty_group-group.result.positions c.empty_group-group.result.judged.items none;
      below = c.empty_group-group.ensures.below;
      few = let zero : length c.empty_group-group.result.judged.items ≡ 0 = rw none in omega arith;
      closes = closes-same ws word c.args.turns.now;
      closed = λ b low high. absurd (omega arith);
      prepared = λ works prepared. prepared;
    }

pub loop-position-preserved : goal.loop-position-preserved
loop-position-preserved g c =
    let ws = c.args.words.now in
    let word = word_at ws c.args.first in
    let inv = c.loop-position.invariant in
    let few = inv.few in
    let grows = c.visit.ensures.grows in
    let at = c.loop-position.position in
    record {
      group = c.visit.ensures.group;
      below = c.visit.ensures.below inv.below;
      few = omega arith;
      closes = closes-both ws word c.args.turns.now c.loop-position.turns c.visit.new.turns inv.closes c.visit.ensures.closes;
      closed = closed-more ws word c.visit.new.turns c.args.first at c.visit.ensures.closed (closed-kept ws word c.loop-position.turns c.visit.new.turns c.args.first at c.visit.ensures.closes inv.closed);
      prepared = λ works prepared. c.visit.ensures.prepared works c.args.first (inv.prepared works prepared);
    }

use Rattle.std.proofs.Common.{◌+◌, ◌∙◌, ap, refl, sym, arith, false}
use Rattle.std.proofs.lemmas.List.{take_all}
use Rattle.std.proofs.lemmas.List.Sums.{count_by_more_no, count_by_more_yes}
use Rattle.std.specs.List.{count_by}
use Rattle.request_slots.proofs.hand.marked.Goals.{then-marks-k, else-marks-k}
use Rattle.request_slots.proofs.hand.marked.Goals as goal

pub loop-k-init : goal.loop-k-init
loop-k-init c = record { counted = refl; few = omega arith }

pub loop-k-preserved : goal.loop-k-preserved
loop-k-preserved c = elim c.if-marks-k.branch [
  | then-marks-k w ↦ record {
    counted = w.count-is ∙ (ap (λ n. n + 1) c.loop-k.invariant.counted ∙ sym (count_by_more_yes (λ mark. mark) c.args.marks.now c.loop-k.k false c.loop-k-test.true w.if-marks-k.true));
    few = let is = w.count-is in let few = c.loop-k.invariant.few in omega arith;
  }
  | else-marks-k w ↦ record {
    counted = w.count-is ∙ (c.loop-k.invariant.counted ∙ sym (count_by_more_no (λ mark. mark) c.args.marks.now c.loop-k.k false c.loop-k-test.true w.if-marks-k.false));
    few = let is = w.count-is in let few = c.loop-k.invariant.few in omega arith;
  }
]

pub returns : goal.returns
returns c = c.loop-k.invariant.counted ∙ ap (count_by (λ mark. mark)) (take_all c.loop-k.k c.args.marks.now (let end = c.loop-k-test.false in omega arith))

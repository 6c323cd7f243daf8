use Rattle.std.proofs.Common.{rules, arith, ◌≡◌, ℕ, ◌<◌, length, set, ◌∙◌, sym, ap, subst, vec_capacity, length-set}
use Rattle.request_slots.specs.declared.known.Known.{Known}
use Rattle.combiner.specs.Passes.{Taking}
use Rattle.combiner.proofs.PassSteps.{taking_hits, taking_misses, taking_same}
use Rattle.combiner.proofs.pass.take_all.Goals as goal
use Rattle.combiner.proofs.pass.take_all.Goals.{in-Some, in_default}

pub loop-i-preserved : goal.loop-i-preserved
loop-i-preserved c =
    let kept = c.passes_by.ensures.kept c.if-passes_by.false in
    let t = subst (λ (k : Known). Taking c.args.seat.now k c.loop-i.i c.loop-i.requests.items c.loop-i.numbers) (sym kept) c.loop-i.invariant.0 in
    let i : ℕ = c.loop-i.i in
    let below = c.loop-i-test.true in let few = t.few in let small = c.requires.callers.1 in
    elim c.match-step_take.branch [
      | in-Some w ↦
          let at : w.len.result ≡ length c.loop-i.requests.items = search rules in
          let long : length c.loop-i.numbers ≡ 64 = sym (length-set c.loop-i.numbers w.len.result i) ∙ (ap length (sym w.numbers-is) ∙ c.match-step_take.array_long) in
          let room : length c.loop-i.requests.items < length c.loop-i.numbers = omega arith in (
            taking_same _ _ _ _ _ _ _ (ap (λ v. v.items) w.requests-is ∙ w.push_reserved.ensures.items) (w.numbers-is ∙ ap (λ (k : ℕ). set c.loop-i.numbers k i) at)
                (taking_hits _ _ _ i w.in-Some.request c.loop-i.requests.items c.loop-i.numbers w.in-Some.ensures.caller w.in-Some.ensures.lawful w.in-Some.ensures.won room t),
            w.in-Some.ensures.place,
            ap (λ v. vec_capacity v) w.requests-is ∙ (w.push_reserved.ensures.capacity ∙ c.loop-i.invariant.2),
          )
      | in_default w ↦ (
        taking_same _ _ _ _ _ _ _ (ap (λ v. v.items) w.requests-is) w.numbers-is (taking_misses _ _ _ i _ _ w.in_default.ensures.lost t),
        w.in_default.ensures.place,
        ap (λ v. vec_capacity v) w.requests-is ∙ c.loop-i.invariant.2,
      )
    ]

pub loop-i-preserved-then-passes_by : goal.loop-i-preserved-then-passes_by
loop-i-preserved-then-passes_by c = (
  taking_misses _ _ _ c.loop-i.i _ _ (c.passes_by.ensures.passed c.if-passes_by.true) c.loop-i.invariant.0,
  c.passes_by.ensures.place,
  c.loop-i.invariant.2,
)

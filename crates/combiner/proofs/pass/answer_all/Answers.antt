use Rattle.std.proofs.Common.{rules, arith, ◌≡◌, ◌∷◌, ◌++◌, [], length}
use Rattle.combiner.proofs.Tellings.{next_asks, telling_last, telling_next}
use Rattle.combiner.proofs.pass.answer_all.Goals as goal

pub step_answer-requires-clause-caller : goal.step_answer-requires-clause-caller
step_answer-requires-clause-caller c =
    let left : c.len-left.result ≡ length c.pop.new.self.items = search rules in
    let items : c.loop-outcome.outcomes.items ≡ c.pop.new.self.items ++ c.in-Some.outcome ∷ [] = search rules in
    let next = telling_last c.args.callers _ _ _ _ c.in-Some.outcome c.args.numbers.now c.len-left.result left items c.loop-outcome.invariant.0 in
    let near = next.inside in let all = c.requires.callers.0 in omega arith

pub step_answer-requires-clause-taken : goal.step_answer-requires-clause-taken
step_answer-requires-clause-taken c =
    let left : c.len-left.result ≡ length c.pop.new.self.items = search rules in
    let items : c.loop-outcome.outcomes.items ≡ c.pop.new.self.items ++ c.in-Some.outcome ∷ [] = search rules in
    next_asks (telling_last c.args.callers _ _ _ _ c.in-Some.outcome c.args.numbers.now c.len-left.result left items c.loop-outcome.invariant.0)

pub step_answer-requires-clause-outcome : goal.step_answer-requires-clause-outcome
step_answer-requires-clause-outcome c =
    let left : c.len-left.result ≡ length c.pop.new.self.items = search rules in
    let items : c.loop-outcome.outcomes.items ≡ c.pop.new.self.items ++ c.in-Some.outcome ∷ [] = search rules in
    (telling_last c.args.callers _ _ _ _ c.in-Some.outcome c.args.numbers.now c.len-left.result left items c.loop-outcome.invariant.0).outcome

pub loop-outcome-preserved : goal.loop-outcome-preserved
loop-outcome-preserved c =
    let left : c.len-left.result ≡ length c.pop.new.self.items = search rules in
    let items : c.loop-outcome.outcomes.items ≡ c.pop.new.self.items ++ c.in-Some.outcome ∷ [] = search rules in
    let next = telling_last c.args.callers _ _ _ _ c.in-Some.outcome c.args.numbers.now c.len-left.result left items c.loop-outcome.invariant.0 in
    let small = c.loop-outcome.invariant.3 in (
      telling_next c.args.callers _ _ _ _ _ c.in-Some.outcome c.args.numbers.now c.len-left.result left items next c.step_answer.ensures.known c.loop-outcome.invariant.0,
      search rules,
      search rules,
      omega arith,
    )

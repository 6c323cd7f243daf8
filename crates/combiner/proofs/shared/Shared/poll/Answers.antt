use Rattle.std.proofs.Common.{rules, ◌≡◌, ap, sym, subst, ◌∙◌}
use Rattle.combiner.specs.declared.answers.Polled.{Polled}
use Rattle.combiner.specs.Standing.{Standing, standing, HasLeft}
use Rattle.combiner.proofs.Turns.{IsTold, collected_says, polled_of, not_idle, has_left}
use Rattle.combiner.proofs.shared.Shared.poll.Goals.{in-Answered, in-AnsweredBlock, in-Refused, in-RefusedBlock}
use Rattle.combiner.proofs.shared.Shared.poll.Goals as goal

pub returns-in_default-clause-waiting : goal.returns-in_default-clause-waiting
returns-in_default-clause-waiting c =
    let known = c.in_default.ensures.waiting.0 in (
      subst HasLeft c.caller.view_is (has_left (standing c.caller.inside.seat) (not_idle _ c.is_idle.result c.is_idle.ensures.idle (search rules))),
      ap standing known ∙ c.caller.view_is,
    )

pub returns-clause-answered : goal.returns-clause-answered
returns-clause-answered c =
    let says = collected_says (standing c.caller.inside.seat) (standing c.step_collect.new.seat) c.in-Some.outcome (not_idle _ c.is_idle.result c.is_idle.ensures.idle (search rules)) c.in-Some.ensures.kind c.in-Some.ensures.told in
    let is : polled_of c.in-Some.outcome ≡ c.match-outcome.result = elim c.match-outcome.branch [
      | in-Answered w ↦ ap polled_of w.in-Answered.is ∙ sym w.result-is
      | in-Refused w ↦ ap polled_of w.in-Refused.is ∙ sym w.result-is
      | in-AnsweredBlock w ↦ ap polled_of w.in-AnsweredBlock.is ∙ sym w.result-is
      | in-RefusedBlock w ↦ ap polled_of w.in-RefusedBlock.is ∙ sym w.result-is
    ] in
    (subst (λ (r : Polled). IsTold c.args.caller.now (standing c.step_collect.new.seat) r) is
    (subst (λ (d : Standing). IsTold d (standing c.step_collect.new.seat) (polled_of c.in-Some.outcome)) c.caller.view_is says)).answered

pub returns-clause-back : goal.returns-clause-back
returns-clause-back c =
    let says = collected_says (standing c.caller.inside.seat) (standing c.step_collect.new.seat) c.in-Some.outcome (not_idle _ c.is_idle.result c.is_idle.ensures.idle (search rules)) c.in-Some.ensures.kind c.in-Some.ensures.told in
    let is : polled_of c.in-Some.outcome ≡ c.match-outcome.result = elim c.match-outcome.branch [
      | in-Answered w ↦ ap polled_of w.in-Answered.is ∙ sym w.result-is
      | in-Refused w ↦ ap polled_of w.in-Refused.is ∙ sym w.result-is
      | in-AnsweredBlock w ↦ ap polled_of w.in-AnsweredBlock.is ∙ sym w.result-is
      | in-RefusedBlock w ↦ ap polled_of w.in-RefusedBlock.is ∙ sym w.result-is
    ] in
    (subst (λ (r : Polled). IsTold c.args.caller.now (standing c.step_collect.new.seat) r) is
    (subst (λ (d : Standing). IsTold d (standing c.step_collect.new.seat) (polled_of c.in-Some.outcome)) c.caller.view_is says)).back

pub returns-clause-block_answered : goal.returns-clause-block_answered
returns-clause-block_answered c =
    let says = collected_says (standing c.caller.inside.seat) (standing c.step_collect.new.seat) c.in-Some.outcome (not_idle _ c.is_idle.result c.is_idle.ensures.idle (search rules)) c.in-Some.ensures.kind c.in-Some.ensures.told in
    let is : polled_of c.in-Some.outcome ≡ c.match-outcome.result = elim c.match-outcome.branch [
      | in-Answered w ↦ ap polled_of w.in-Answered.is ∙ sym w.result-is
      | in-Refused w ↦ ap polled_of w.in-Refused.is ∙ sym w.result-is
      | in-AnsweredBlock w ↦ ap polled_of w.in-AnsweredBlock.is ∙ sym w.result-is
      | in-RefusedBlock w ↦ ap polled_of w.in-RefusedBlock.is ∙ sym w.result-is
    ] in
    (subst (λ (r : Polled). IsTold c.args.caller.now (standing c.step_collect.new.seat) r) is
    (subst (λ (d : Standing). IsTold d (standing c.step_collect.new.seat) (polled_of c.in-Some.outcome)) c.caller.view_is says)).block_answered

pub returns-clause-block_back : goal.returns-clause-block_back
returns-clause-block_back c =
    let says = collected_says (standing c.caller.inside.seat) (standing c.step_collect.new.seat) c.in-Some.outcome (not_idle _ c.is_idle.result c.is_idle.ensures.idle (search rules)) c.in-Some.ensures.kind c.in-Some.ensures.told in
    let is : polled_of c.in-Some.outcome ≡ c.match-outcome.result = elim c.match-outcome.branch [
      | in-Answered w ↦ ap polled_of w.in-Answered.is ∙ sym w.result-is
      | in-Refused w ↦ ap polled_of w.in-Refused.is ∙ sym w.result-is
      | in-AnsweredBlock w ↦ ap polled_of w.in-AnsweredBlock.is ∙ sym w.result-is
      | in-RefusedBlock w ↦ ap polled_of w.in-RefusedBlock.is ∙ sym w.result-is
    ] in
    (subst (λ (r : Polled). IsTold c.args.caller.now (standing c.step_collect.new.seat) r) is
    (subst (λ (d : Standing). IsTold d (standing c.step_collect.new.seat) (polled_of c.in-Some.outcome)) c.caller.view_is says)).block_back

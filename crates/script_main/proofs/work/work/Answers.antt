use Rattle.std.proofs.Common.{rules, arith, ◌≡◌, ◌+◌, ◌∷◌, List, length, sym, ap, ◌∙◌, subst, length-append}
use Rattle.std.specs.List.{AllByRecursion}
use Rattle.std.specs.Vec.Iter.{into_iter_items}
use Rattle.call_history.specs.declared.request.Job.{Job}
use Rattle.call_history.specs.Fits.{IsLawfulJob}
use Rattle.script_main.proofs.WorkLemmas.{comes_first, turn_below, work_more}
use Rattle.script_main.proofs.work.work.Goals as goal

pub loop-job-init : goal.loop-job-init
loop-job-init g c =
    let rest = into_iter_items c.into_iter-job-iterator.result in
    let all : rest ≡ c.args.script.items = search rules in
    let first = comes_first (g.G.Gate.may_answer c.args.gate.now) c.args.shared.now c.args.script.items c.args.caller c.requires.new in (
      subst (AllByRecursion IsLawfulJob) (sym all) c.requires.lawful,
      rw (all, c.in-Ok.ensures.items) first,
    )

pub loop-job-preserved : goal.loop-job-preserved
loop-job-preserved g c =
    let next : into_iter_items c.loop-job.job-iterator ≡ c.in-Some.job ∷ into_iter_items c.next.new.self = search rules in
    let told = c.in_ok-take_turn.ensures.turn in
    let more =
    work_more (g.G.Gate.may_answer c.args.gate.now) c.args.shared.now c.args.caller.bounds c.args.caller.number c.loop-job.turn c.args.script.items (into_iter_items c.loop-job.job-iterator) (into_iter_items c.next.new.self) c.in-Some.job
    c.loop-job.caller c.take_turn.new.caller c.loop-job.replies.items told.0 next c.loop-job.invariant.1 told.2 c.in_ok-take_turn.ensures.passes in
    ((subst (AllByRecursion IsLawfulJob) next c.loop-job.invariant.0).1, rw told.1 more)

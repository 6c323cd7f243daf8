use Rattle.std.proofs.Common.{arith, rules, ◌≡◌, ◌+◌, ◌∙◌, [], ◌∷◌, ap, length, length-append, refl, set, subst, sym, vec_len}
use Rattle.std.specs.List.{AllByRecursion}
use Rattle.call_history.specs.declared.request.Job.{Job}
use Rattle.call_history.specs.declared.request.Request.{Request}
use Rattle.cvl_calls.specs.Runs.{runs_kernel}
use Rattle.cvl_text.specs.Tasks.{task_of}
use Rattle.batch_flatten.specs.Alike.{IsForCall}
use Rattle.batch_flatten.specs.Batches.{RunsJob}
use Rattle.batch_flatten.specs.Counts.{kernels_of}
use Rattle.batch_flatten.proofs.AlikeLemmas.{at-most-one}
use Rattle.batch_flatten.proofs.AlikeTurns.{none-next, some-next, stands-now, turns-count, turns-end, turns-next, turns-start}
use Rattle.batch_flatten.proofs.CountLemmas.{rises-both, rises-more, rises-same}
use Rattle.batch_flatten.proofs.singly.serve_singly.Goals as goal

pub loop-place-init : goal.loop-place-init
loop-place-init g c =
    let rs = c.args.requests.now.items in
    let count : vec_len c.args.requests.now ≡ length rs = search rules in
    let space = c.requires.space in
    let start = turns-start c.args.book.now rs c.args.outcomes.now.items c.len-entries.ensures.whole c.requires.empty c.requires.lawful (omega arith) in
    record {
      turns = (start.0, subst (AllByRecursion IsForCall) (sym start.1) c.requires.single);
      long = refl;
      many = ap length c.requires.empty;
      counted = rises-same 0 c.args.meter.now c.args.meter.now refl;
      request_spaces = refl;
      outcome_spaces = refl;
    }

pub loop-place-preserved : goal.loop-place-preserved
loop-place-preserved g c =
    let bounds = c.args.book.now.bounds in
    let line = c.args.book.now.history in
    let rs = c.args.requests.now.items in
    let now = c.loop-place.requests.items in
    let os = c.loop-place.outcomes.items in
    let book = c.loop-place.book in
    let place = c.loop-place.place in
    let inv = c.loop-place.invariant in
    let t = inv.turns.0 in
    let all = turns-count bounds line rs now book os t in
    let start : vec_len c.args.requests.now ≡ length rs = search rules in
    let end = c.len-place-end.ensures in
    let low = c.loop-place-test.true in
    let many = inv.many in
    let n = some-next t.rest (omega arith) in
    let is = c.index_mut-request.ensures.value ∙ stands-now bounds line rs now book os t n.request n.others place c.index_mut-request.result.now n.are (sym many) in
    let ran = c.run_call_onto.ensures.ran in
    let k = c.index_mut-request.result.now.caller in
    let job = subst (λ (j : Job). RunsJob book c.run_call_onto.new.book k j ran.0) c.in-One.ensures ran.3 in
    let runs = subst (λ (r : Request). RunsJob book c.run_call_onto.new.book r.caller r.job ran.0) is job in
    let next = turns-next bounds line rs now (set now place c.take_job.new.request) book c.run_call_onto.new.book os c.run_call_onto.new.outcomes.items ran.0 c.take_job.new.request n.request n.others c.requires.distinct t n.are runs
    c.run_call_onto.ensures.one_space (ap (λ i. set now i c.take_job.new.request) (sym many)) ran.1 in
    let singles = subst (AllByRecursion IsForCall) n.are inv.turns.1 in
    let kernel = runs_kernel (task_of c.in-One.call).word in
    record {
      turns = (next.0, subst (AllByRecursion IsForCall) (sym next.1) singles.1);
      long = inv.long;
      many = omega (arith, ap length ran.1, length-append os (ran.0 ∷ []), many);
      counted = rises-both place 1 (place + 1) c.args.meter.now c.loop-place.meter c.run_call_onto.new.meter (omega arith) inv.counted
          (rises-more (kernels_of kernel) 1 c.loop-place.meter c.run_call_onto.new.meter (at-most-one kernel) c.run_call_onto.ensures.counted);
      request_spaces = inv.request_spaces;
      outcome_spaces = c.run_call_onto.ensures.spaces ∙ inv.outcome_spaces;
    }

pub returns-clause-serves : goal.returns-clause-serves
returns-clause-serves g c =
    let bounds = c.args.book.now.bounds in
    let line = c.args.book.now.history in
    let rs = c.args.requests.now.items in
    let now = c.loop-place.requests.items in
    let os = c.loop-place.outcomes.items in
    let book = c.loop-place.book in
    let t = c.loop-place.invariant.turns.0 in
    let all = turns-count bounds line rs now book os t in
    let start : vec_len c.args.requests.now ≡ length rs = search rules in
    let end = c.len-place-end.ensures in
    let high = c.loop-place-test.false in
    let many = c.loop-place.invariant.many in
    turns-end bounds line rs now book os t (none-next t.rest (omega arith))

pub returns-clause-counted : goal.returns-clause-counted
returns-clause-counted g c =
    let rs = c.args.requests.now.items in
    let start : vec_len c.args.requests.now ≡ length rs = search rules in
    let end = c.len-place-end.ensures in
    let last = c.loop-place.auto.place-end in
    rises-more c.loop-place.place (length rs) c.args.meter.now c.loop-place.meter (omega arith) c.loop-place.invariant.counted

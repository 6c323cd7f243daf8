use Rattle.std.proofs.Common.{arith, rules, ◌≡◌, ◌∙◌, ◌+◌, ◌<◌, ◌∷◌, Result, Ok, ap, drop, length, map, refl, set, subst, sym, vec_len}
use Rattle.std.proofs.lemmas.List.{drop-set-lt, drop_more, length-map, length-set, length_push}
use Rattle.cvl_text.specs.declared.fault.Fault.{Fault}
use Rattle.cvl_calls.specs.Outcomes.{Effect}
use Rattle.call_history.specs.Books.{memory_of}
use Rattle.call_history.specs.declared.request.Request.{Request}
use Rattle.batch_flatten.specs.Alike.{work_asked}
use Rattle.batch_flatten.specs.Batches.{RunsJob}
use Rattle.batch_flatten.proofs.AlikeTurns.{UnderWay, first-made, stands-now, under-way-next, under-way-start}
use Rattle.batch_flatten.proofs.made_turns.serve_each.Goals as goal

pub loop-place-init : goal.loop-place-init
loop-place-init g c =
    let rs = c.args.requests.now.items in
    let made = c.args.made.now.items in
    let ok : Effect → Result Effect Fault = λ effect. Ok effect in
    let count : vec_len c.args.requests.now ≡ length rs = search rules in
    let space = c.requires.space in
    record {
      under_way = under-way-start c.args.book.now rs (map g.T.Turned.effect made) c.args.outcomes.now.items c.len-entries.ensures.whole c.requires.empty c.requires.apart c.requires.lawful c.requires.made (omega arith);
      here = ap length c.requires.empty;
      requests_long = refl;
      made_long = sym (length-map (map g.T.Turned.effect made) ok ∙ length-map made g.T.Turned.effect) ∙ ap length c.requires.made ∙ length-map rs (work_asked (memory_of c.args.book.now));
      request_spaces = refl;
      outcome_spaces = refl;
    }

pub loop-place-preserved : goal.loop-place-preserved
loop-place-preserved g c =
    let bounds = c.args.book.now.bounds in
    let line = c.args.book.now.history in
    let rs = c.args.requests.now.items in
    let now = c.loop-place.requests.items in
    let made = c.loop-place.made.items in
    let os = c.loop-place.outcomes.items in
    let book = c.loop-place.book in
    let place = c.loop-place.place in
    let one = c.index_mut.result.now in
    let inv = c.loop-place.invariant in
    let low = c.loop-place-test.true in
    let end = c.len-place-end.ensures in
    let count : vec_len c.args.requests.now ≡ length rs = search rules in
    let long = inv.made_long in
    let lt : place < length made = omega arith in
    let next : drop place made ≡ one ∷ drop (place + 1) made = drop_more made place one lt ∙ ap (λ x. x ∷ drop (place + 1) made) (sym c.index_mut.ensures.value) in
    let effects = map g.T.Turned.effect (drop (place + 1) made) in
    let u = subst (λ ts. UnderWay bounds line rs now (map g.T.Turned.effect ts) book os) next inv.under_way in
    let f = first-made (memory_of book) (g.T.Turned.effect one) effects u.turns.rest u.made in
    let changed = c.serve.new.request in
    let is = c.index_mut-in-loop-place.ensures.value ∙ stands-now bounds line rs now book os u.turns f.request f.others place c.index_mut-in-loop-place.result.now f.are (sym inv.here) in
    let ran = c.serve.ensures.ran in
    let runs = subst (λ (r : Request). RunsJob book c.serve.new.book r.caller r.job ran.0) {y = f.request} is ran.2 in
    let later = under-way-next bounds line rs now (set now place changed) (g.T.Turned.effect one) effects book c.serve.new.book os c.serve.new.outcomes.items ran.0 changed c.requires.distinct
    u f runs c.serve.ensures.one_space (ap (λ n. set now n changed) (sym inv.here)) ran.1 in
    record {
      under_way = subst (λ ts. UnderWay bounds line rs (set now place changed) (map g.T.Turned.effect ts) c.serve.new.book c.serve.new.outcomes.items) (sym (drop-set-lt (place + 1) made place c.serve.new.self (omega arith))) later;
      here = ap length ran.1 ∙ length_push os ran.0 ∙ ap (λ n. n + 1) inv.here;
      requests_long = length-set now place changed ∙ inv.requests_long;
      made_long = length-set made place c.serve.new.self ∙ inv.made_long;
      request_spaces = inv.request_spaces;
      outcome_spaces = c.serve.ensures.spaces ∙ inv.outcome_spaces;
    }

use Rattle.std.proofs.Common.{arith, rules, ◌≡◌, ◌∙◌, [], ◌∷◌, ◌++◌, ap, length, slice_get, subst, sym, vec_len}
use Rattle.call_history.specs.declared.request.Request.{Request}
use Rattle.call_history.specs.declared.request.Outcome.{Outcome}
use Rattle.call_history.specs.Books.{BookState}
use Rattle.batch_flatten.specs.Batches.{RunsJob}
use Rattle.batch_flatten.proofs.AloneLemmas.{alone-served, only-one}
use Rattle.batch_flatten.proofs.alone.serve_alone.Goals as goal
use Rattle.batch_flatten.proofs.alone.serve_alone.Goals.{in-None, in-Some-run_request_onto}

pub returns-clause-serves : goal.returns-clause-serves
returns-clause-serves g c =
    let bounds = c.args.book.now.bounds in
    let line = c.args.book.now.history in
    let rs = c.args.requests.now.items in
    let after = c.match-run_request_onto.book in
    let os = c.match-run_request_onto.outcomes.items in
    let whole = c.len-entries.ensures.whole in
    elim c.match-run_request_onto.branch [
      | in-None w ↦
          let r = c.in-Some.request.now in
          let ran = c.run_request_onto.ensures.ran w.in-None.is in
          let o = ran.0 in
          let count : vec_len c.args.requests.now ≡ length rs = search rules in
          let alone = c.requires.alone in
          let asked = only-one rs r (c.in-Some.ensures.value ∙ ap (λ l. slice_get l 0) c.deref.ensures.value) (omega arith) in
          let said : os ≡ o ∷ [] = ap (λ v. v.items) w.outcomes-is ∙ (ran.1 ∙ ap (λ l. l ++ o ∷ []) c.requires.empty) in
          let runs = subst (λ (b : BookState). RunsJob c.reserve.new.self b r.caller r.job o) (sym w.book-is) ran.3 in
          alone-served bounds line rs os r c.reserve.new.self after o asked said whole c.in-Ok.ensures.bounds c.in-Ok.ensures.history runs
      | in-Some-run_request_onto w ↦
          let ran = w.serve_unserved.ensures.ran in
          let r = ran.0 in
          let o = ran.1 in
          let kept = w.in-Some-run_request_onto.ensures in
          let said : os ≡ o ∷ [] = ap (λ v. v.items) w.outcomes-is ∙ (ran.3 ∙ (ap (λ v. v.items ++ o ∷ []) kept.outcomes ∙ ap (λ l. l ++ o ∷ []) c.requires.empty)) in
          let runs = subst (λ (b : BookState). RunsJob c.run_request_onto.new.book b r.caller r.job o) (sym w.book-is) ran.5 in
          alone-served bounds line rs os r c.run_request_onto.new.book after o ran.2 said whole (kept.bounds ∙ c.in-Ok.ensures.bounds) (kept.history ∙ c.in-Ok.ensures.history) runs
    ]

use Rattle.std.proofs.Common.{◌≡◌, ◌<◌, ◌∙◌, All, List, ap, map, subst, sym}
use Rattle.std.proofs.lemmas.Simd.{map-map}
use Rattle.std.specs.Borrow.{Bor}
use Rattle.std.specs.List.{AllByRecursion}
use Rattle.cvl_text.specs.declared.call.Call.{Call}
use Rattle.cvl_text.specs.Tasks.{task_of}
use Rattle.cvl_calls.specs.Alike.{AreDone}
use Rattle.call_history.specs.declared.request.Job.{Job}
use Rattle.call_history.specs.declared.request.Job.TheVariants.{One}
use Rattle.call_history.specs.Alike.{entered}
use Rattle.call_history.specs.Books.{memory_of}
use Rattle.call_history.specs.Callers.{caller_limit}
use Rattle.batch_flatten.proofs.OverTurns.{calls-alike, callers-lawful, together-grown}
use Rattle.batch_flatten.proofs.over.run_over.Goals as goal

abbrev lent : Bor Call → Call
lent c = c.now

abbrev single : Call → Job
single c = One c

pub run_alike-requires-clause-callers : goal.run_alike-requires-clause-callers
run_alike-requires-clause-callers g c κs within =
    subst (AllByRecursion (λ k. k < caller_limit)) (sym (c.deref.ensures.value ∙ c.in-Some.ensures)) (callers-lawful c.args.requests.now c.requires.lawful)

pub run_alike-requires-clause-alike : goal.run_alike-requires-clause-alike
run_alike-requires-clause-alike g c κs within =
    subst (All (λ (k : Bor Call). (task_of k.now).word ≡ c.args.word)) (sym c.deref-2.ensures.value)
    (calls-alike c.args.word c.args.requests.now c.in-Some-calls_of.calls.items c.in-Some-calls_of.ensures c.requires.alike)

pub returns-clause-ran : goal.returns-clause-ran
returns-clause-ran g c = λ told.
    let old = c.args.book.now in
    let rs = c.args.requests.now in
    let calls = c.in-Some-calls_of.calls.items in
    let callers = c.deref.ensures.value ∙ c.in-Some.ensures in
    let tasks : map (λ (k : Bor Call). task_of k.now) calls ≡ map task_of (map lent calls) = sym (map-map task_of lent calls) in
    record {
      calls = map lent calls;
      asked = map-map single lent calls ∙ c.in-Some-calls_of.ensures;
      entries = c.run_alike.ensures.history told ∙ ap (λ ks. entered old.history ks (map lent c.deref-2.result.now)) callers ∙ ap (λ (cs : List (Bor Call)). entered old.history (map (λ r. r.caller) rs) (map lent cs)) c.deref-2.ensures.value;
      done = subst (AreDone (memory_of old)) tasks (subst (λ (cs : List (Bor Call)). AreDone (memory_of old) (map (λ (k : Bor Call). task_of k.now) cs)) c.deref-2.ensures.value (c.run_alike.ensures.done told));
    }

pub returns-clause-grown : goal.returns-clause-grown
returns-clause-grown g c = λ told. together-grown c.args.book.now c.run_alike.new.self c.args.requests.now (returns-clause-ran g c told)

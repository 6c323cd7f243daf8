use Rattle.std.proofs.Common.{rules, ◌≡◌, List, [], ◌∷◌, ◌++◌, length, map, subst, sym}
use Rattle.std.specs.List.{AllByRecursion, range_with_len}
use Rattle.call_history.specs.declared.request.Job.TheVariants.{One}
use Rattle.call_history.specs.declared.request.Request.{Request}
use Rattle.call_history.specs.Fits.{IsLawfulJob}
use Rattle.call_history.proofs.Serving.{lawful-push}
use Rattle.batch_flatten.specs.Serving.{caller_of}
use Rattle.batch_flatten.proofs.CallerLemmas.{counted-push}
use Rattle.batch_tests.proofs.asking.batch_of.Goals as goal

pub loop-line-preserved : goal.loop-line-preserved
loop-line-preserved g c =
    let rs = c.loop-line.requests.items in
    let next : c.len-caller.result ≡ length rs = search rules in
    let asked : Request = record { caller = c.len-caller.result; job = One c.expect-call.result } in
    let pushed : c.push.new.self.items ≡ rs ++ asked ∷ [] = search rules in
    record {
      few = search rules;
      callers = subst (λ (l : List Request). map caller_of l ≡ range_with_len 0 (length l)) (sym {A = List Request} pushed) (counted-push rs asked next c.loop-line.invariant.callers);
      jobs = subst (AllByRecursion (λ r. IsLawfulJob r.job)) (sym {A = List Request} pushed) (lawful-push rs asked c.loop-line.invariant.jobs tt);
    }

-- A batch whose outcomes stand in the order of the requests from the start: at first each job came back (`fits_returned`), and
-- then one after the other is answered behind the history, in any order (`fits_answered_at`).
use Rattle.std.proofs.Common.{◌≡◌, ◌≢◌, ◌==◌, ℕ, zero, suc, Bool, true, false, cond, List, [], ◌∷◌, ◌++◌, map, length, take, Option, Some, None, refl, sym, ap, ◌∙◌, subst, eq-eqb, ne_eqb, slice_get, set}
use mathlib.Core.Logic.{dite}
use native.Mathlib.Decide.{ℕ_discrete}
use Rattle.vector_memory.specs.declared.bounds.Bounds.{Bounds}
use Rattle.call_history.specs.declared.entry.Entry.{Entry}
use Rattle.call_history.specs.declared.request.Job.{Job}
use Rattle.call_history.specs.declared.request.Request.{Request}
use Rattle.call_history.specs.declared.request.Outcome.{Outcome}
use Rattle.call_history.specs.History.{replay, replies_from}
use Rattle.call_history.specs.Callers.{calls_by}
use Rattle.call_history.specs.Blocks.{Whole, block_entries}
use Rattle.call_history.specs.Fits.{request, calls_of, returned, handed_back, IsAskedAt, IsOfJob, fate_of, StandsAt, CameBack, request_by, outcome_by, FitsFate, FitsCaller, Fits}
use Rattle.call_history.proofs.Beginnings.{begins_self, begins_trans}
use Rattle.call_history.proofs.Serving.{back-fate, back-fits, back-of_job, caller_grown, others-behind, stands-behind}

pub fits_returned : (bounds : Bounds) (history : List Entry) (rs : List Request) → Fits bounds history rs history (map returned rs)
fits_returned bounds history rs = record { grows = begins_self history; each = λ k. each_of k rs }
  where
    each_of : (k : ℕ) (qs : List Request) → FitsCaller bounds history history k (request_by k qs) (outcome_by k qs (map returned qs))
    each_of k [] = refl
    each_of k (q ∷ qs) = by k q qs (q.caller == k) (each_of k qs)
      where
        by : (k : ℕ) (q : Request) (qs : List Request) (b : Bool) → FitsCaller bounds history history k (request_by k qs) (outcome_by k qs (map returned qs))
            → FitsCaller bounds history history k (cond b (Some q.job) (request_by k qs)) (cond b (Some (returned q)) (outcome_by k qs (map returned qs)))
        by k q qs true later = (returned q, refl, back-of_job q.job, back-fits bounds history history k q.job refl)
        by k q qs false later = later

later : (b : Bool) (r : Request) (q : Option Job) → cond b (Some r.job) q ≡ None → (b ≡ false) × (q ≡ None)
later true r q e = absurd cc
later false r q e = (refl, e)

same_caller : (r : Request) (k : ℕ) (job : Job) → ◌≡◌ {A = Option Request} (Some r) (Some (request k job)) → (r.caller == k) ≡ true
same_caller r k job e = let same : r ≡ request k job = cc in ap (λ (z : Request). z.caller == k) same ∙ eq-eqb k k refl

request_by-at : (k : ℕ) (rs : List Request) (i : ℕ) (job : Job) → slice_get rs i ≡ Some (request k job) → request_by k (take i rs) ≡ None → request_by k rs ≡ Some job
request_by-at k [] i job there first = absurd cc
request_by-at k (r ∷ rs) zero job there first =
    let same : r ≡ request k job = cc in
    ap (λ b. cond b (Some r.job) (request_by k rs)) (same_caller r k job there) ∙ ap (λ (z : Request). Some z.job) same
request_by-at k (r ∷ rs) (suc i) job there first =
    let parts = later (r.caller == k) r (request_by k (take i rs)) first in
    ap (λ b. cond b (Some r.job) (request_by k rs)) parts.0 ∙ request_by-at k rs i job there parts.1

outcome_by-at : (k : ℕ) (rs : List Request) (os : List Outcome) (i : ℕ) (job : Job) (o : Outcome) → slice_get rs i ≡ Some (request k job) → request_by k (take i rs) ≡ None → slice_get os i ≡ Some o
    → outcome_by k rs os ≡ Some o
outcome_by-at k [] os i job o there first has = absurd cc
outcome_by-at k (r ∷ rs) [] i job o there first has = absurd cc
outcome_by-at k (r ∷ rs) (x ∷ os) zero job o there first has = ap (λ b. cond b (Some x) (outcome_by k rs os)) (same_caller r k job there) ∙ has
outcome_by-at k (r ∷ rs) (x ∷ os) (suc i) job o there first has =
    let parts = later (r.caller == k) r (request_by k (take i rs)) first in
    ap (λ b. cond b (Some x) (outcome_by k rs os)) parts.0 ∙ outcome_by-at k rs os i job o there parts.1 has

outcome_by-set_else : (j k : ℕ) (rs : List Request) (os : List Outcome) (i : ℕ) (job : Job) (o : Outcome) → j ≢ k → slice_get rs i ≡ Some (request k job) → outcome_by j rs (set os i o) ≡ outcome_by j rs os
outcome_by-set_else j k [] os i job o other there = absurd cc
outcome_by-set_else j k (r ∷ rs) [] i job o other there = refl
outcome_by-set_else j k (r ∷ rs) (x ∷ os) zero job o other there =
    let same : r ≡ request k job = cc in
    let apart : (r.caller == j) ≡ false = ap (λ (z : Request). z.caller == j) same ∙ ne_eqb k j (λ e. other (sym e)) in
    ap (λ b. cond b (Some o) (outcome_by j rs os)) apart ∙ sym (ap (λ b. cond b (Some x) (outcome_by j rs os)) apart)
outcome_by-set_else j k (r ∷ rs) (x ∷ os) (suc i) job o other there = ap (cond (r.caller == j) (Some x)) (outcome_by-set_else j k rs os i job o other there)

slice_get-set : (os : List Outcome) (i : ℕ) (o p : Outcome) → slice_get os i ≡ Some p → slice_get (set os i o) i ≡ Some o
slice_get-set [] i o p h = absurd cc
slice_get-set (x ∷ os) zero o p h = refl
slice_get-set (x ∷ os) (suc i) o p h = slice_get-set os i o p h

-- a job that came back is answered behind the history
pub fits_answered_at : (bounds : Bounds) (old mid : List Entry) (rs : List Request) (os : List Outcome) (i k : ℕ) (job : Job) (o : Outcome) → IsAskedAt rs i k job → slice_get os i ≡ Some (handed_back job) → IsOfJob job o
    → fate_of o ≡ StandsAt (length mid) (replies_from (replay bounds mid) (block_entries mid k (calls_of job))) → Whole mid
    → Fits bounds old rs mid os → Fits bounds old rs (mid ++ block_entries mid k (calls_of job)) (set os i o)
fits_answered_at bounds old mid rs os i k job o at was_back kind fate whole f =
    let more : List Entry = block_entries mid k (calls_of job) in
    let asks : request_by k rs ≡ Some job = request_by-at k rs i job at.there at.first in
    let was : outcome_by k rs os ≡ Some (handed_back job) = outcome_by-at k rs os i job (handed_back job) at.there at.first was_back in
    let had : calls_by k mid ≡ calls_by k old = unanswered bounds old mid k job (subst (λ (z : Option Job × (Option Outcome)). FitsCaller bounds old mid k z.0 z.1) (λ j. (asks j, was j)) (f.each k)) in
    let now : outcome_by k rs (set os i o) ≡ Some o = outcome_by-at k rs (set os i o) i job o at.there at.first (slice_get-set os i o (handed_back job) was_back) in
    let own : FitsCaller bounds old (mid ++ more) k (Some job) (Some o) = (
      o,
      refl,
      kind,
      subst (FitsFate bounds old (mid ++ more) k (calls_of job)) (sym fate) (stands-behind bounds old mid k (calls_of job) f.grows whole had),
    ) in
    let others : (j : ℕ) → j ≢ k → FitsCaller bounds old (mid ++ more) j (request_by j rs) (outcome_by j rs (set os i o)) =
    λ j other. subst (λ (z : Option Outcome). FitsCaller bounds old (mid ++ more) j (request_by j rs) z) (sym (outcome_by-set_else j k rs os i job o other at.there))
    (caller_grown bounds old mid more j (request_by j rs) (outcome_by j rs os) (others-behind mid j k (calls_of job) (λ e. other (sym e))) (f.each j)) in
    record {
      grows = begins_trans old mid (mid ++ more) f.grows (more, refl);
      each = λ j. dite (ℕ_discrete j k)
          (λ is. subst (λ (z : ℕ). FitsCaller bounds old (mid ++ more) z (request_by z rs) (outcome_by z rs (set os i o))) (sym is)
          (subst (λ (z : Option Job × (Option Outcome)). FitsCaller bounds old (mid ++ more) k z.0 z.1) (λ j. (sym asks j, sym now j)) own))
          (others j);
    }
  where
    unanswered : (bounds : Bounds) (old mid : List Entry) (k : ℕ) (job : Job) → FitsCaller bounds old mid k (Some job) (Some (handed_back job)) → calls_by k mid ≡ calls_by k old
    unanswered bounds old mid k job f =
        let same : f.0 ≡ handed_back job = cc in
        let came : fate_of f.0 ≡ CameBack (calls_of job) = ap fate_of same ∙ back-fate job in
        (subst (FitsFate bounds old mid k (calls_of job)) came f.3).0

-- A batch grows by one job at a time, and answers the callers that it serves.
use Rattle.std.proofs.Common.{◌≡◌, ◌≢◌, ◌==◌, ℕ, ◌+◌, ◌≤◌, Bool, true, false, cond, List, [], ◌∷◌, ◌++◌, length, take, drop, Option, Some, None, refl, sym, ap, ◌∙◌, subst, arith, append_assoc, append-nil, length-append, length-drop, length-take, take-add, take-append-drop, eq-eqb, ne_eqb}
use Rattle.std.specs.List.{AllByRecursion}
use Rattle.std.proofs.Math.Seq.{take-append_seam, drop-append_seam}
use Rattle.std.proofs.lemmas.List.{take-append-le, drop-append-le}
use mathlib.Core.Logic.{dite}
use native.Mathlib.Decide.{ℕ_discrete}
use Rattle.vector_memory.specs.declared.bounds.Bounds.{Bounds}
use Rattle.cvl_text.specs.declared.call.Call.{Call}
use Rattle.cvl_text.specs.Answers.{Answer}
use Rattle.call_history.specs.declared.entry.Entry.{Entry}
use Rattle.call_history.specs.declared.request.Job.{Job}
use Rattle.call_history.specs.declared.request.Job.TheVariants.{One, Many}
use Rattle.call_history.specs.declared.request.Request.{Request}
use Rattle.call_history.specs.declared.request.Outcome.{Outcome}
use Rattle.call_history.specs.History.{replay, replies_from, Begins}
use Rattle.call_history.specs.Callers.{calls_by}
use Rattle.call_history.specs.Blocks.{Whole, block_entries}
use Rattle.call_history.specs.Answers.{Answers}
use Rattle.call_history.specs.Fits.{request, calls_of, IsLawfulJob, Fate, StandsAt, CameBack, fate_of, IsOfJob, handed_back, request_by, outcome_by, block_at, Serves, FitsFate, FitsCaller, Fits}
use Rattle.call_history.proofs.Beginnings.{begins_self, begins_trans, begins_length, begins_shorter, take_begins}
use Rattle.call_history.proofs.Blocks.{Whole-grown, calls_by-block, calls_by-block_other, length-block}
use Rattle.call_history.proofs.CallerLemmas.{calls_by-append, middle_alone}

-- a request that was not there is found once it is put last, and the others are found as before
pub request_by-push : (k : ℕ) (rs : List Request) (job : Job) → request_by k rs ≡ None → request_by k (rs ++ request k job ∷ []) ≡ Some job
request_by-push k [] job e = ap (λ b. cond {A = Option Job} b (Some job) None) (eq-eqb k k refl)
request_by-push k (r ∷ rs) job e = go (r.caller == k) (request_by-push k rs job) e
  where
    go : (b : Bool) → (request_by k rs ≡ None → request_by k (rs ++ request k job ∷ []) ≡ Some job) → cond {A = Option Job} b (Some r.job) (request_by k rs) ≡ None
        → cond {A = Option Job} b (Some r.job) (request_by k (rs ++ request k job ∷ [])) ≡ Some job
    go true later e = absurd (cc e)
    go false later e = later e

pub request_by-push_else : (k i : ℕ) (rs : List Request) (job : Job) → k ≢ i → request_by k (rs ++ request i job ∷ []) ≡ request_by k rs
request_by-push_else k i [] job other = ap (λ b. cond {A = Option Job} b (Some job) None) (ne_eqb i k (λ e. other (sym e)))
request_by-push_else k i (r ∷ rs) job other = ap (cond {A = Option Job} (r.caller == k) (Some r.job)) (request_by-push_else k i rs job other)

-- and so is its outcome
outcome_by-push : (k : ℕ) (rs : List Request) (os : List Outcome) (job : Job) (o : Outcome) → length os ≡ length rs → request_by k rs ≡ None → outcome_by k (rs ++ request k job ∷ []) (os ++ o ∷ []) ≡ Some o
outcome_by-push k [] [] job o same e = ap (λ b. cond {A = Option Outcome} b (Some o) None) (eq-eqb k k refl)
outcome_by-push k [] (x ∷ os) job o same e = absurd (omega arith)
outcome_by-push k (r ∷ rs) [] job o same e = absurd (omega arith)
outcome_by-push k (r ∷ rs) (x ∷ os) job o same e = go (r.caller == k) (outcome_by-push k rs os job o (omega arith)) e
  where
    go : (b : Bool) → (request_by k rs ≡ None → outcome_by k (rs ++ request k job ∷ []) (os ++ o ∷ []) ≡ Some o) → cond {A = Option Job} b (Some r.job) (request_by k rs) ≡ None
        → cond {A = Option Outcome} b (Some x) (outcome_by k (rs ++ request k job ∷ []) (os ++ o ∷ [])) ≡ Some o
    go true later e = absurd (cc e)
    go false later e = later e

outcome_by-push_else : (k i : ℕ) (rs : List Request) (os : List Outcome) (job : Job) (o : Outcome) → length os ≡ length rs → k ≢ i → outcome_by k (rs ++ request i job ∷ []) (os ++ o ∷ []) ≡ outcome_by k rs os
outcome_by-push_else k i [] [] job o same other = ap (λ b. cond {A = Option Outcome} b (Some o) None) (ne_eqb i k (λ e. other (sym e)))
outcome_by-push_else k i [] (x ∷ os) job o same other = absurd (omega arith)
outcome_by-push_else k i (r ∷ rs) [] job o same other = absurd (omega arith)
outcome_by-push_else k i (r ∷ rs) (x ∷ os) job o same other = ap (cond {A = Option Outcome} (r.caller == k) (Some x)) (outcome_by-push_else k i rs os job o (omega arith) other)

-- one more job that may be asked for
pub lawful-push : (rs : List Request) (r : Request) → AllByRecursion (λ q. IsLawfulJob q.job) rs → IsLawfulJob r.job → AllByRecursion (λ q. IsLawfulJob q.job) (rs ++ r ∷ [])
lawful-push [] r all lawful = (lawful, tt)
lawful-push (q ∷ rs) r all lawful = (all.0, lawful-push rs r all.1 lawful)

block_grown : (mid more : List Entry) (place n : ℕ) → place + n ≤ length mid → block_at (mid ++ more) place n ≡ block_at mid place n
block_grown mid more place n le =
    let first : place ≤ length mid = omega arith in
    let rest : n ≤ length (drop place mid) = omega (arith, length-drop place mid) in
    ap (take n) (drop-append-le place mid more first) ∙ take-append-le n (drop place mid) more rest

serves_grown : (bounds : Bounds) (old mid more : List Entry) (k : ℕ) (calls : List Call) (place : ℕ) (replies : List Answer) → Serves bounds old mid k calls place replies → Serves bounds old (mid ++ more) k calls place replies
serves_grown bounds old mid more k calls place replies s =
    let within = s.within in
    let first : place ≤ length mid = omega arith in
    let before : take place (mid ++ more) ≡ take place mid = take-append-le place mid more first in
    record {
      added = s.added;
      within = omega (arith, length-append mid more);
      entries_are = block_grown mid more place (length calls) s.within ∙ s.entries_are ∙ ap (λ (l : List Entry). block_entries l k calls) (sym before);
      whole = subst Whole (sym (take-append-le (place + length calls) mid more s.within)) s.whole;
      replies_are = ap (λ (l : List Entry). replies_from (replay bounds l) (block_entries l k calls)) before ∙ s.replies_are;
    }

fate_grown : (bounds : Bounds) (old mid more : List Entry) (k : ℕ) (calls : List Call) (fate : Fate) → calls_by k (mid ++ more) ≡ calls_by k mid → FitsFate bounds old mid k calls fate → FitsFate bounds old (mid ++ more) k calls fate
fate_grown bounds old mid more k calls (StandsAt place replies) same f = (same ∙ f.0, serves_grown bounds old mid more k calls place replies f.1)
fate_grown bounds old mid more k calls (CameBack back) same f = (same ∙ f.0, f.1)

pub caller_grown : (bounds : Bounds) (old mid more : List Entry) (k : ℕ) (asked : Option Job) (o : Option Outcome) → calls_by k (mid ++ more) ≡ calls_by k mid → FitsCaller bounds old mid k asked o → FitsCaller bounds old (mid ++ more) k asked o
caller_grown bounds old mid more k None o same f = same ∙ f
caller_grown bounds old mid more k (Some job) o same f = (f.0, f.1, f.2, fate_grown bounds old mid more k (calls_of job) (fate_of f.0) same f.3)

pub fits_nothing : (bounds : Bounds) (history : List Entry) → Fits bounds history [] history []
fits_nothing bounds history = record { grows = begins_self history; each = λ k. refl }

-- a job that is back is one of its kind
pub back-of_job : (job : Job) → IsOfJob job (handed_back job)
back-of_job (One call) = tt
back-of_job (Many calls) = tt

pub back-fate : (job : Job) → fate_of (handed_back job) ≡ CameBack (calls_of job)
back-fate (One call) = refl
back-fate (Many calls) = refl

-- a job that is back changed nothing
pub back-fits : (bounds : Bounds) (old new : List Entry) (k : ℕ) (job : Job) → calls_by k new ≡ calls_by k old → FitsFate bounds old new k (calls_of job) (fate_of (handed_back job))
back-fits bounds old new k (One call) had = (had, refl)
back-fits bounds old new k (Many calls) had = (had, refl)

-- a job that is answered behind a history stands there
pub stands-behind : (bounds : Bounds) (old mid : List Entry) (k : ℕ) (calls : List Call) → Begins old mid → Whole mid → calls_by k mid ≡ calls_by k old
    → FitsFate bounds old (mid ++ block_entries mid k calls) k calls (StandsAt (length mid) (replies_from (replay bounds mid) (block_entries mid k calls)))
stands-behind bounds old mid k calls grows whole had =
    let more : List Entry = block_entries mid k calls in
    let count : length more ≡ length calls = length-block mid k calls in
    let size : length (mid ++ more) ≡ length mid + length calls = length-append mid more ∙ ap (λ (n : ℕ). length mid + n) count in
    let first : take (length mid) (mid ++ more) ≡ mid = take-append_seam mid more in
    let all : take (length mid + length calls) (mid ++ more) ≡ mid ++ more = ap (λ (n : ℕ). take n (mid ++ more)) (sym size) ∙ take-all (mid ++ more) in
    let there : block_at (mid ++ more) (length mid) (length calls) ≡ more =
    ap (take (length calls)) (drop-append_seam mid more) ∙ (ap (λ (n : ℕ). take n more) (sym count) ∙ take-all more) in (
      calls_by-append k mid more ∙ (ap (λ l. l ++ calls_by k more) had ∙ ap (λ l. calls_by k old ++ l) (calls_by-block k mid calls)),
      record {
        added = begins_length old mid grows;
        within = omega (arith, size);
        entries_are = there ∙ ap (λ (l : List Entry). block_entries l k calls) (sym first);
        whole = subst Whole (sym all) (Whole-grown mid k calls whole);
        replies_are = ap (λ (l : List Entry). replies_from (replay bounds l) (block_entries l k calls)) first;
      },
    )
  where
    take-all : (xs : List Entry) → take (length xs) xs ≡ xs
    take-all [] = refl
    take-all (x ∷ xs) = ap (λ (l : List Entry). x ∷ l) (take-all xs)

-- the calls of the others stay
pub others-behind : (mid : List Entry) (j k : ℕ) (calls : List Call) → k ≢ j → calls_by j (mid ++ block_entries mid k calls) ≡ calls_by j mid
others-behind mid j k calls other =
    calls_by-append j mid (block_entries mid k calls) ∙ (ap (λ l. calls_by j mid ++ l) (calls_by-block_other j k other mid calls) ∙ append-nil (calls_by j mid))

-- the outcome of a request that is put last
fits_pushed : (bounds : Bounds) (old new : List Entry) (rs : List Request) (os : List Outcome) (k : ℕ) (job : Job) (o : Outcome) → length os ≡ length rs → request_by k rs ≡ None → IsOfJob job o
    → FitsFate bounds old new k (calls_of job) (fate_of o) → ((j : ℕ) → j ≢ k → FitsCaller bounds old new j (request_by j rs) (outcome_by j rs os))
    → (j : ℕ) → FitsCaller bounds old new j (request_by j (rs ++ request k job ∷ [])) (outcome_by j (rs ++ request k job ∷ []) (os ++ o ∷ []))
fits_pushed bounds old new rs os k job o same fresh kind mine others j = dite (ℕ_discrete j k)
    (λ is. subst (λ (z : ℕ). FitsCaller bounds old new z (request_by z (rs ++ request k job ∷ [])) (outcome_by z (rs ++ request k job ∷ []) (os ++ o ∷ []))) (sym is)
    (subst (λ (q : Option Job). FitsCaller bounds old new k q (outcome_by k (rs ++ request k job ∷ []) (os ++ o ∷ []))) (sym (request_by-push k rs job fresh)) (o, outcome_by-push k rs os job o same fresh, kind, mine)))
    (λ other. subst (λ (z : Option Job × (Option Outcome)). FitsCaller bounds old new j z.0 z.1) (λ i. (sym (request_by-push_else j k rs job other) i, sym (outcome_by-push_else j k rs os job o same other) i)) (others j other))

-- a request that is refused changes nothing
pub fits_refused : (bounds : Bounds) (old mid : List Entry) (rs : List Request) (os : List Outcome) (k : ℕ) (job : Job) → length os ≡ length rs → request_by k rs ≡ None → Fits bounds old rs mid os
    → Fits bounds old (rs ++ request k job ∷ []) mid (os ++ handed_back job ∷ [])
fits_refused bounds old mid rs os k job same fresh f =
    let had : calls_by k mid ≡ calls_by k old = subst (λ (q : Option Job). FitsCaller bounds old mid k q (outcome_by k rs os)) fresh (f.each k) in
    record {
      grows = f.grows;
      each = fits_pushed bounds old mid rs os k job (handed_back job) same fresh (back-of_job job) (back-fits bounds old mid k job had) (λ j other. f.each j);
    }

-- the calls of a request that is answered become the last entries
pub fits_answered : (bounds : Bounds) (old mid : List Entry) (rs : List Request) (os : List Outcome) (k : ℕ) (job : Job) (o : Outcome) → length os ≡ length rs → request_by k rs ≡ None → IsOfJob job o
    → fate_of o ≡ StandsAt (length mid) (replies_from (replay bounds mid) (block_entries mid k (calls_of job))) → Whole mid
    → Fits bounds old rs mid os → Fits bounds old (rs ++ request k job ∷ []) (mid ++ block_entries mid k (calls_of job)) (os ++ o ∷ [])
fits_answered bounds old mid rs os k job o same fresh kind fate whole f =
    let more : List Entry = block_entries mid k (calls_of job) in
    let had : calls_by k mid ≡ calls_by k old = subst (λ (q : Option Job). FitsCaller bounds old mid k q (outcome_by k rs os)) fresh (f.each k) in
    record {
      grows = begins_trans old mid (mid ++ more) f.grows (more, refl);
      each = fits_pushed bounds old (mid ++ more) rs os k job o same fresh kind
          (subst (FitsFate bounds old (mid ++ more) k (calls_of job)) (sym fate) (stands-behind bounds old mid k (calls_of job) f.grows whole had))
          (λ j other. caller_grown bounds old mid more j (request_by j rs) (outcome_by j rs os) (others-behind mid j k (calls_of job) (λ e. other (sym e))) (f.each j));
    }

-- calls that a batch answered are answered at their own place, for a caller that had seen no more than the history before the batch
pub answers-from_serves : (bounds : Bounds) (seen old new : List Entry) (own : List Call) (k : ℕ) (calls : List Call) (place : ℕ) (replies : List Answer)
    → Begins seen old → Begins old new → calls_by k old ≡ own → calls_by k new ≡ own ++ calls → Serves bounds old new k calls place replies
    → Answers bounds seen own k calls (take (place + length calls) new) replies
answers-from_serves bounds seen old new own k calls place replies saw grew had has s =
    let m : ℕ = place + length calls in
    let block : List Entry = block_at new place (length calls) in
    let of_caller : calls_by k block ≡ calls = ap (calls_by k) s.entries_are ∙ calls_by-block k (take place new) calls in
    let within : place + length calls ≤ length new = s.within in
    let added : length old ≤ place = s.added in
    let longer : length old ≤ length (take place new) = omega (arith, length-take place new) in
    let middle : Begins old (take place new) = begins_shorter old (take place new) new grew (take_begins place new) longer in
    let parts : take m new ≡ take place new ++ block = take-add place (length calls) new in
    let between : List Call = calls_by k middle.0 in
    let rest : List Call = calls_by k (drop m new) in
    let early : calls_by k (take place new) ≡ own ++ between =
    ap (calls_by k) middle.1 ∙ (calls_by-append k old middle.0 ∙ ap (λ l. l ++ between) had) in
    let up_to : calls_by k (take m new) ≡ own ++ (between ++ calls) =
    ap (calls_by k) parts ∙ (calls_by-append k (take place new) block ∙ (ap (λ l. l ++ calls_by k block) early
    ∙ (append_assoc own between (calls_by k block) ∙ ap (λ l. own ++ (between ++ l)) of_caller))) in
    let all : own ++ (between ++ (calls ++ rest)) ≡ own ++ calls =
    ap (λ l. own ++ l) (sym (append_assoc between calls rest)) ∙ (sym (append_assoc own (between ++ calls) rest) ∙ (ap (λ l. l ++ rest) (sym up_to)
    ∙ (sym (calls_by-append k (take m new) (drop m new)) ∙ (ap (calls_by k) (take-append-drop m new) ∙ has)))) in
    record {
      before = take place new;
      begins = begins_trans seen old (take m new) saw (begins_trans old (take place new) (take m new) middle (block, parts));
      ends = parts ∙ ap (λ (l : List Entry). take place new ++ l) s.entries_are;
      whole = s.whole;
      owns = up_to ∙ middle_alone own between calls rest all;
      replies_are = s.replies_are;
    }

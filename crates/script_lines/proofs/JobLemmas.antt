-- The lists of jobs, as lines add to them: `AreJobsOf-none` at first, and `AreJobsOf-next` for one more line. `adds-quiet`, `adds-head`
-- and `adds-job` say what a line adds by what is done at it.
use Rattle.std.proofs.Common.{◌≡◌, ℕ, zero, suc, ◌<◌, ◌+◌, max, Bool, true, false, cond, eqb, List, [], ◌∷◌, ◌++◌, length, set, get_or, map, refl, sym, ap, ◌∙◌, subst, arith, append_assoc}
use Rattle.std.proofs.lemmas.List.{append-nil, map-append, get_or-set_same, get_or-set_other}
use Rattle.std.proofs.lemmas.Bool.{eqb-true, eqb-false}
use Rattle.std.specs.List.{AllByRecursion}
use Rattle.cvl_text.specs.Tasks.{Task}
use Rattle.call_history.specs.declared.request.Job.{Job}
use Rattle.call_history.specs.declared.request.Job.TheVariants as jobs
use Rattle.call_history.specs.Fits.{IsLawfulJob}
use Rattle.script_lines.specs.Scripts.{Stage, AtStart, Line, Skipped, Bad, Heads, Asks, Opens, Adds, Closes, line_of, stage_after_line, stage_after}
use Rattle.script_lines.specs.Asks.{is_quiet, job_line}
use Rattle.script_lines.specs.Readings.{told, jobs_in, jobs_from, jobs_at, jobs_done, callers_in, caller_count, AreLawful, AreJobsOf, AddsJob, AddsLine}

-- a list without jobs at the end
pub get_or-push_none : (lists : List (List Job)) (k : ℕ) → get_or (lists ++ [] ∷ []) k [] ≡ get_or lists k []
get_or-push_none [] zero = refl
get_or-push_none [] (suc k) = refl
get_or-push_none (l ∷ ls) zero = refl
get_or-push_none (l ∷ ls) (suc k) = get_or-push_none ls k

-- one more job of a caller
pub jobs_at-set : (lists : List (List Job)) (caller k : ℕ) (job : Job) → caller < length lists
    → jobs_at k (set lists caller (get_or lists caller [] ++ job ∷ [])) ≡ jobs_at k lists ++ jobs_done k caller job
jobs_at-set lists caller k job within = by (eqb caller k) refl
  where
    by : (t : Bool) → eqb caller k ≡ t → jobs_at k (set lists caller (get_or lists caller [] ++ job ∷ [])) ≡ jobs_at k lists ++ jobs_done k caller job
    by true e =
        let same : caller ≡ k = eqb-true caller k e in
        let own = get_or lists caller [] in
        rw e (ap (λ (n : ℕ). get_or (set lists caller (own ++ job ∷ [])) n []) (sym same) ∙ get_or-set_same lists caller (own ++ job ∷ []) [] within
        ∙ ap (λ (n : ℕ). get_or lists n [] ++ job ∷ []) same)
    by false e =
        rw e (get_or-set_other lists caller k (get_or lists caller [] ++ job ∷ []) [] (λ is. eqb-false caller k e (sym is)) ∙ sym (append-nil (jobs_at k lists)))

all-append : {A : Type 0} (P : A → Type 0) (xs ys : List A) → AllByRecursion P xs → AllByRecursion P ys → AllByRecursion P (xs ++ ys)
all-append P [] ys p q = q
all-append P (x ∷ xs) ys p q = (p.0, all-append P xs ys p.1 q)

-- a line that asks for no job
none-added : (lists : List (List Job)) (line : Line) → callers_in line ≡ 0 → ((k : ℕ) → jobs_in k line ≡ []) → AddsLine lists lists line
none-added lists line none no_jobs = record {
  count = omega (arith, none);
  jobs = λ k. sym (ap (λ (t : List (Bool × List Task)). map told (jobs_at k lists) ++ t) (no_jobs k) ∙ append-nil (map told (jobs_at k lists)));
  lawful = λ all. all;
}

pub adds-quiet : (lists : List (List Job)) (line : Line) → is_quiet line ≡ true → AddsLine lists lists line
adds-quiet lists Skipped q = none-added lists Skipped refl (λ k. refl)
adds-quiet lists Bad q = absurd (cc q)
adds-quiet lists Heads q = absurd (cc q)
adds-quiet lists (Asks caller task) q = absurd (cc q)
adds-quiet lists (Opens caller) q = none-added lists (Opens caller) refl (λ k. refl)
adds-quiet lists (Adds task) q = none-added lists (Adds task) refl (λ k. refl)
adds-quiet lists (Closes caller tasks) q = absurd (cc q)

pub adds-head : (lists : List (List Job)) → AddsLine lists lists Heads
adds-head lists = none-added lists Heads refl (λ k. refl)

callers-job : (caller : ℕ) (job : Job) → callers_in (job_line caller job) ≡ caller + 1
callers-job caller (jobs.One call) = refl
callers-job caller (jobs.Many calls) = refl

told-job : (k caller : ℕ) (job : Job) → map told (jobs_done k caller job) ≡ jobs_in k (job_line caller job)
told-job k caller (jobs.One call) = by (eqb caller k)
  where
    by : (t : Bool) → map told (cond t (jobs.One call ∷ []) []) ≡ cond t (told (jobs.One call) ∷ []) []
    by true = refl
    by false = refl
told-job k caller (jobs.Many calls) = by (eqb caller k)
  where
    by : (t : Bool) → map told (cond t (jobs.Many calls ∷ []) []) ≡ cond t (told (jobs.Many calls) ∷ []) []
    by true = refl
    by false = refl

lawful-job : (k caller : ℕ) (job : Job) → IsLawfulJob job → AllByRecursion IsLawfulJob (jobs_done k caller job)
lawful-job k caller job lawful = by (eqb caller k)
  where
    by : (t : Bool) → AllByRecursion IsLawfulJob (cond t (job ∷ []) [])
    by true = (lawful, tt)
    by false = tt

pub adds-job : (old new : List (List Job)) (caller : ℕ) (job : Job) → IsLawfulJob job → AddsJob old new caller job → AddsLine old new (job_line caller job)
adds-job old new caller job lawful a = record {
  count = a.count ∙ ap (λ (n : ℕ). max (length old) n) (sym (callers-job caller job));
  jobs = λ k. ap (map told) (a.jobs k) ∙ map-append told (jobs_at k old) (jobs_done k caller job)
      ∙ ap (λ (t : List (Bool × List Task)). map told (jobs_at k old) ++ t) (told-job k caller job);
  lawful = λ all k. subst (λ (js : List Job). AllByRecursion IsLawfulJob js) (sym (a.jobs k))
      (all-append IsLawfulJob (jobs_at k old) (jobs_done k caller job) (all k) (lawful-job k caller job lawful));
}

jobs_from-append : (k : ℕ) (stage : Stage) (ls ms : List (List ℕ)) → jobs_from k stage (ls ++ ms) ≡ jobs_from k stage ls ++ jobs_from k (stage_after stage ls) ms
jobs_from-append k stage [] ms = refl
jobs_from-append k stage (l ∷ ls) ms =
    let next = stage_after_line stage (line_of stage l) in
    ap (λ (t : List (Bool × List Task)). jobs_in k (line_of stage l) ++ t) (jobs_from-append k next ls ms)
    ∙ sym (append_assoc (jobs_in k (line_of stage l)) (jobs_from k next ls) (jobs_from k (stage_after next ls) ms))

caller_count-append : (stage : Stage) (ls ms : List (List ℕ)) → caller_count stage (ls ++ ms) ≡ max (caller_count stage ls) (caller_count (stage_after stage ls) ms)
caller_count-append stage [] ms = omega arith
caller_count-append stage (l ∷ ls) ms = let rest = caller_count-append (stage_after_line stage (line_of stage l)) ls ms in omega arith

get_or_default : (k : ℕ) → get_or {A = List Job} [] k [] ≡ []
get_or_default zero = refl
get_or_default (suc k) = refl

pub AreJobsOf-none : AreJobsOf [] []
AreJobsOf-none = record { count = refl; jobs = λ k. ap (map told) (get_or_default k) }

pub AreLawful-none : (lists : List (List Job)) → lists ≡ [] → AreLawful lists
AreLawful-none lists none =
    subst (λ (ls : List (List Job)). AreLawful ls) (sym none) (λ k. subst (λ (js : List Job). AllByRecursion IsLawfulJob js) (sym (get_or_default k)) tt)

pub AreJobsOf-next : (old new : List (List Job)) (ls : List (List ℕ)) (line : List ℕ) → AreJobsOf old ls → AddsLine old new (line_of (stage_after AtStart ls) line)
    → AreJobsOf new (ls ++ line ∷ [])
AreJobsOf-next old new ls line a b =
    let said = line_of (stage_after AtStart ls) line in
    record {
      count = let all = caller_count-append AtStart ls (line ∷ []) in omega (arith, a.count, b.count);
      jobs = λ k. b.jobs k ∙ ap (λ (t : List (Bool × List Task)). t ++ jobs_in k said) (a.jobs k)
          ∙ ap (λ (t : List (Bool × List Task)). jobs_from k AtStart ls ++ t) (sym (append-nil (jobs_in k said))) ∙ sym (jobs_from-append k AtStart ls (line ∷ []));
    }

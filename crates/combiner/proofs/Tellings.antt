-- Outcomes that are told, the last one first.
-- `telling_last` says whose the last one is, `next_asks` that its request was taken, and `telling_next` what stands once it is told.
use Rattle.std.proofs.Common.{◌≡◌, ◌≢◌, ℕ, zero, suc, ◌+◌, ◌<◌, ◌==◌, Bool, true, false, cond, List, [], ◌∷◌, ◌++◌, map, length, take, get_or, append_assoc, append-nil, lt_of_not-le, Option, Some, None, refl, sym, ap, ◌∙◌, subst, arith, eq-eqb, ne_eqb, length-append}
use Rattle.std.specs.Prelude.{is_some, IsSome}
use mathlib.Core.List.{map-append}
use Rattle.call_history.specs.declared.request.Job.{Job}
use Rattle.call_history.specs.declared.request.Request.{Request}
use Rattle.call_history.specs.declared.request.Outcome.{Outcome}
use Rattle.call_history.specs.Fits.{request, request_by, outcome_by}
use Rattle.request_slots.specs.declared.known.Known.{Known}
use Rattle.request_slots.specs.Passes.{all_but, strikes}
use Rattle.request_slots.specs.Views.{pass_in, passing}
use Rattle.request_slots.specs.Seating.{IsDistinct}
use Rattle.combiner.specs.Passes.{Telling, asker}
use Rattle.request_slots.proofs.RequestLists.{request_by-middle, all_but_middle, middle_asks}

request_by-front : (k i : ℕ) (rs : List Request) (job : Job) → request_by k (rs ++ request i job ∷ []) ≡ None → (k ≢ i) × (request_by k rs ≡ None)
request_by-front k i rs job e = let m = request_by-middle k i rs [] job e in (m.0, subst (λ l. request_by k l ≡ None) (append-nil rs) m.1)

-- without the last of distinct requests the others are left
all_but_last : (rs : List Request) (i : ℕ) (job : Job) → IsDistinct (rs ++ request i job ∷ []) → (all_but i (rs ++ request i job ∷ []) ≡ rs) × IsDistinct rs
all_but_last rs i job d = let m = all_but_middle rs [] i job d in (m.0 ∙ append-nil rs, subst IsDistinct (append-nil rs) m.1)

take_init : (ns xs : List ℕ) (x n : ℕ) → take (suc n) ns ≡ xs ++ x ∷ [] → length xs ≡ n → (take n ns ≡ xs) × (get_or ns n 0 ≡ x)
take_init [] [] x n e le = absurd (cc e)
take_init [] (z ∷ zs) x n e le = absurd (cc e)
take_init (y ∷ ns) [] x zero e le = (refl, cc e)
take_init (y ∷ ns) [] x (suc n) e le = absurd (omega arith)
take_init (y ∷ ns) (z ∷ zs) x zero e le = absurd (omega arith)
take_init (y ∷ ns) (z ∷ zs) x (suc n) e le =
    let later : take (suc n) ns ≡ zs ++ x ∷ [] = cc e in
    let first : y ≡ z = cc e in
    let rest = take_init ns zs x n later (omega arith) in
    (cc (first, rest.0), rest.1)

length-map_askers : (rs : List Request) → length (map asker rs) ≡ length rs
length-map_askers [] = refl
length-map_askers (r ∷ rs) = ap suc (length-map_askers rs)

snoc : (rs : List Request) → 0 < length rs → (ts : List Request) × (r : Request) × (rs ≡ ts ++ r ∷ [])
snoc [] lt = absurd (omega arith)
snoc (r ∷ []) lt = ([], r, refl)
snoc (r ∷ q ∷ rs) lt = let s = snoc (q ∷ rs) (omega arith) in (r ∷ s.0, s.1, ap (λ (l : List Request). r ∷ l) s.2)

-- the outcome of a request whose caller has none before it
outcome_by-at : (ts : List Request) (os : List Outcome) (r : Request) (o : Outcome) (rs : List Request) (qs : List Outcome) → length os ≡ length ts → request_by r.caller ts ≡ None
    → outcome_by r.caller (ts ++ r ∷ rs) (os ++ o ∷ qs) ≡ Some o
outcome_by-at [] [] r o rs qs same e = ap (λ b. cond {A = Option Outcome} b (Some o) (outcome_by r.caller rs qs)) (eq-eqb r.caller r.caller refl)
outcome_by-at [] (x ∷ os) r o rs qs same e = absurd (omega arith)
outcome_by-at (t ∷ ts) [] r o rs qs same e = absurd (omega arith)
outcome_by-at (t ∷ ts) (x ∷ os) r o rs qs same e = go (t.caller == r.caller) (outcome_by-at ts os r o rs qs (omega arith)) e
  where
    go : (b : Bool) → (request_by r.caller ts ≡ None → outcome_by r.caller (ts ++ r ∷ rs) (os ++ o ∷ qs) ≡ Some o) → cond {A = Option Job} b (Some t.job) (request_by r.caller ts) ≡ None
        → cond {A = Option Outcome} b (Some x) (outcome_by r.caller (ts ++ r ∷ rs) (os ++ o ∷ qs)) ≡ Some o
    go true later e = absurd (cc e)
    go false later e = later e

distinct_last : (ts : List Request) (i : ℕ) (job : Job) → IsDistinct (ts ++ request i job ∷ []) → request_by i ts ≡ None
distinct_last [] i job d = refl
distinct_last (t ∷ ts) i job d = let front = request_by-front t.caller i ts job d.0 in
    ap (λ b. cond {A = Option Job} b (Some t.job) (request_by i ts)) (ne_eqb t.caller i front.0) ∙ distinct_last ts i job d.1

-- What is next to be told: the outcome of the caller whose number stands at place n
pub record Next (callers : ℕ) (now : Known) (n : ℕ) (numbers : List ℕ) (o : Outcome) : Type 0 where
  pub earlier : List Request
  pub job : Job
  pub last : (pass_in now).taken ≡ earlier ++ request (get_or numbers n 0) job ∷ []
  pub outcome : outcome_by (get_or numbers n 0) (pass_in now).asked (pass_in now).outcomes ≡ Some o
  pub inside : get_or numbers n 0 < callers
  pub before_numbers : take n numbers ≡ map asker earlier
  pub length_is : length earlier ≡ n

-- the next one's request was taken
pub next_asks : {callers : ℕ} {now : Known} {n : ℕ} {numbers : List ℕ} {o : Outcome} → Next callers now n numbers o → IsSome (request_by (get_or numbers n 0) (pass_in now).taken)
next_asks {n} {numbers} next = ap is_some (ap (request_by (get_or numbers n 0)) next.last ∙ (middle_asks next.earlier [] (get_or numbers n 0) next.job).1)

pub telling_last : (callers : ℕ) (before now : Known) (outcomes os : List Outcome) (o : Outcome) (numbers : List ℕ) (n : ℕ) → n ≡ length os → outcomes ≡ os ++ o ∷ []
    → Telling callers before now outcomes numbers (length outcomes) → Next callers now n numbers o
telling_last callers before now outcomes os o numbers n size is t =
    let os_size : length outcomes ≡ length os + 1 = ap length is ∙ length-append os (o ∷ []) in
    let paired = t.paired in
    let last = snoc (pass_in now).taken (omega arith) in
    let ts : List Request = last.0 in let r : Request = last.1 in
    let sizes : length (pass_in now).taken ≡ length ts + 1 = ap length last.2 ∙ length-append ts (r ∷ []) in
    let count : suc n ≡ length outcomes = omega arith in
    let numbers_are : take (suc n) numbers ≡ map asker ts ++ r.caller ∷ [] =
    ap (λ (k : ℕ). take k numbers) count ∙ (t.numbered ∙ (ap (map asker) last.2 ∙ map-append asker ts (r ∷ []))) in
    let named = take_init numbers (map asker ts) r.caller n numbers_are (length-map_askers ts ∙ omega arith) in
    let fresh = distinct_last ts r.caller r.job (subst IsDistinct last.2 t.distinct) in
    let asks = middle_asks ts [] r.caller r.job in
    let told = subst (λ (z : List Request × (List Outcome)). outcome_by r.caller z.0 z.1 ≡ Some o)
    (λ j. (sym (t.asked_is ∙ (ap (λ l. l ++ t.asked_later) last.2 ∙ append_assoc ts (r ∷ []) t.asked_later)) j, sym (t.outcomes_are ∙ (ap (λ l. l ++ t.told_later) is ∙ append_assoc os (o ∷ []) t.told_later)) j))
    (outcome_by-at ts os r o t.asked_later t.told_later (omega arith) fresh) in
    let below : r.caller < callers = lt_of_not-le (λ far. absurd (cc (sym asks.1 ∙ (ap (request_by r.caller) (sym last.2) ∙ t.untaken r.caller far)))) in
    record {
      earlier = ts;
      job = r.job;
      last = last.2 ∙ ap (λ (k : ℕ). ts ++ request k r.job ∷ []) (sym named.1);
      outcome = ap (λ (k : ℕ). outcome_by k (pass_in now).asked (pass_in now).outcomes) named.1 ∙ told;
      inside = subst (λ (k : ℕ). k < callers) (sym named.1) below;
      before_numbers = named.0;
      length_is = omega arith;
    }

-- one more was told
pub telling_next : (callers : ℕ) (before now now' : Known) (outcomes os : List Outcome) (o : Outcome) (numbers : List ℕ) (n : ℕ) → n ≡ length os → outcomes ≡ os ++ o ∷ []
    → Next callers now n numbers o → now' ≡ passing now (strikes (pass_in now) (get_or numbers n 0)) → Telling callers before now outcomes numbers (length outcomes)
    → Telling callers before now' os numbers (length os)
telling_next callers before now now' outcomes os o numbers n size is next told t =
    let number : ℕ = get_or numbers n 0 in
    let r : Request = request number next.job in
    let left = all_but_last next.earlier number next.job (subst IsDistinct next.last t.distinct) in
    let taken : all_but number (pass_in now).taken ≡ next.earlier = ap (all_but number) next.last ∙ left.0 in
    let sizes : length (pass_in now).taken ≡ length next.earlier + 1 = ap length next.last ∙ length-append next.earlier (r ∷ []) in
    let os_size : length outcomes ≡ length os + 1 = ap length is ∙ length-append os (o ∷ []) in
    let paired = t.paired in let same = next.length_is in
    let short : length (all_but number (pass_in now).taken) ≡ length next.earlier = ap length taken in
    subst (λ (k : Known). Telling callers before k os numbers (length os)) (sym told) record {
      has = refl;
      now_is = ap (λ (k : Known). passing k (strikes (pass_in now) number)) t.now_is;
      line_is = t.line_is;
      tried_is = t.tried_is;
      committed = t.committed;
      asked_later = r ∷ t.asked_later;
      told_later = o ∷ t.told_later;
      asked_is = t.asked_is ∙ (ap (λ l. l ++ t.asked_later) next.last ∙ (append_assoc next.earlier (r ∷ []) t.asked_later ∙ ap (λ l. l ++ r ∷ t.asked_later) (sym taken)));
      outcomes_are = t.outcomes_are ∙ (ap (λ l. l ++ t.told_later) is ∙ append_assoc os (o ∷ []) t.told_later);
      untaken = λ k far. ap (request_by k) taken ∙ (request_by-front k number next.earlier next.job (ap (request_by k) (sym next.last) ∙ t.untaken k far)).1;
      distinct = subst IsDistinct (sym taken) left.1;
      paired = omega arith;
      numbered = ap (λ (k : ℕ). take k numbers) (sym size) ∙ (next.before_numbers ∙ ap (map asker) (sym taken));
      counted = omega arith;
    }

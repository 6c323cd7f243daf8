-- Requests taken, as plain lists: without those of a caller, with one more, and with each caller's once.
-- `request_by-all_but` and `request_by-all_but_else` say what `all_but` leaves, `all_but_middle` that it takes one request out of distinct
-- ones; `orderly_tries`, `orderly_takes` and `orderly_strikes` that a pass stays orderly, `marks_take` and `marks_strike` who is marked then.
use Rattle.std.proofs.Common.{◌≡◌, ◌≢◌, ◌⊎◌, inl, inr, ℕ, ◌<◌, Bool, true, false, cond, List, [], ◌∷◌, ◌++◌, ◌==◌, ◌||◌, Option, Some, None, refl, sym, ap, ◌∙◌, subst, arith, eq-eqb, ne_eqb, get_or, set, length-set, get_or-set_same, get_or-set_other}
use Rattle.std.specs.Prelude.{is_some, IsSome}
use mathlib.Core.Logic.{dite}
use native.Mathlib.Decide.{ℕ_discrete}
use Rattle.call_history.specs.declared.request.Job.{Job}
use Rattle.call_history.specs.declared.request.Request.{Request}
use Rattle.call_history.specs.Callers.{caller_limit}
use Rattle.call_history.specs.Fits.{request, request_by}
use Rattle.call_history.proofs.Serving.{request_by-push_else}
use Rattle.request_slots.specs.declared.known.Pass.{Pass}
use Rattle.request_slots.specs.Passes.{is_in, tries, takes_on, all_but, strikes}
use Rattle.request_slots.specs.Seating.{IsDistinct, IsOrderly, IsMarked}

pub request_by-all_but : (k : ℕ) (rs : List Request) → request_by k (all_but k rs) ≡ None
request_by-all_but k [] = refl
request_by-all_but k (r ∷ rs) = go (r.caller == k) (request_by-all_but k rs) refl
  where
    go : (b : Bool) → request_by k (all_but k rs) ≡ None → (r.caller == k) ≡ b → request_by k (cond b (all_but k rs) (r ∷ all_but k rs)) ≡ None
    go true later _ = later
    go false later e = ap (λ b. cond {A = Option Job} b (Some r.job) (request_by k (all_but k rs))) e ∙ later

pub request_by-all_but_else : (k i : ℕ) (rs : List Request) → k ≢ i → request_by k (all_but i rs) ≡ request_by k rs
request_by-all_but_else k i [] other = refl
request_by-all_but_else k i (r ∷ rs) other = dite (ℕ_discrete r.caller i)
    (λ same. ap (λ b. request_by k (cond b (all_but i rs) (r ∷ all_but i rs))) (eq-eqb r.caller i same) ∙ (request_by-all_but_else k i rs other
    ∙ sym (ap (λ b. cond {A = Option Job} b (Some r.job) (request_by k rs)) (ne_eqb r.caller k (λ e. other (sym e ∙ same))))))
    (λ apart. ap (λ b. request_by k (cond b (all_but i rs) (r ∷ all_but i rs))) (ne_eqb r.caller i apart)
    ∙ ap (cond {A = Option Job} (r.caller == k) (Some r.job)) (request_by-all_but_else k i rs other))

all_but_none : (i : ℕ) (rs : List Request) → request_by i rs ≡ None → all_but i rs ≡ rs
all_but_none i [] e = refl
all_but_none i (r ∷ rs) e = go (r.caller == i) (all_but_none i rs) e
  where
    go : (b : Bool) → (request_by i rs ≡ None → all_but i rs ≡ rs) → cond {A = Option Job} b (Some r.job) (request_by i rs) ≡ None → cond b (all_but i rs) (r ∷ all_but i rs) ≡ r ∷ rs
    go true later e = absurd (cc e)
    go false later e = ap (λ (l : List Request). r ∷ l) (later e)

-- a caller that is not among the requests is not the one in the middle
pub request_by-middle : (k i : ℕ) (rs later : List Request) (job : Job) → request_by k (rs ++ request i job ∷ later) ≡ None → (k ≢ i) × (request_by k (rs ++ later) ≡ None)
request_by-middle k i [] later job e = go (i == k) refl e
  where
    go : (b : Bool) → (i == k) ≡ b → cond {A = Option Job} b (Some job) (request_by k later) ≡ None → (k ≢ i) × (request_by k later ≡ None)
    go true same e = absurd (cc e)
    go false same e = ((λ is. let t : true ≡ false = sym (eq-eqb i k (sym is)) ∙ same in absurd (cc t)), e)
request_by-middle k i (r ∷ rs) later job e = go (r.caller == k) (request_by-middle k i rs later job) e
  where
    go : (b : Bool) → (request_by k (rs ++ request i job ∷ later) ≡ None → (k ≢ i) × (request_by k (rs ++ later) ≡ None))
        → cond {A = Option Job} b (Some r.job) (request_by k (rs ++ request i job ∷ later)) ≡ None → (k ≢ i) × (cond {A = Option Job} b (Some r.job) (request_by k (rs ++ later)) ≡ None)
    go true more e = absurd (cc e)
    go false more e = more e

pub middle_asks : (earlier later : List Request) (i : ℕ) (job : Job) → (asked : Job) × (request_by i (earlier ++ request i job ∷ later) ≡ Some asked)
middle_asks [] later i job = (job, ap (λ b. cond {A = Option Job} b (Some job) (request_by i later)) (eq-eqb i i refl))
middle_asks (r ∷ rs) later i job = go (r.caller == i) (middle_asks rs later i job)
  where
    go : (b : Bool) → (asked : Job) × (request_by i (rs ++ request i job ∷ later) ≡ Some asked) → (asked : Job) × (cond {A = Option Job} b (Some r.job) (request_by i (rs ++ request i job ∷ later)) ≡ Some asked)
    go true more = (r.job, refl)
    go false more = more

-- without one of distinct requests the others are left
pub all_but_middle : (rs later : List Request) (i : ℕ) (job : Job) → IsDistinct (rs ++ request i job ∷ later) → (all_but i (rs ++ request i job ∷ later) ≡ rs ++ later) × IsDistinct (rs ++ later)
all_but_middle [] later i job d = (ap (λ b. cond b (all_but i later) (request i job ∷ all_but i later)) (eq-eqb i i refl) ∙ all_but_none i later d.0, d.1)
all_but_middle (r ∷ rs) later i job d =
    let front = request_by-middle r.caller i rs later job d.0 in let more = all_but_middle rs later i job d.1 in
    (ap (λ b. cond b (all_but i (rs ++ request i job ∷ later)) (r ∷ all_but i (rs ++ request i job ∷ later))) (ne_eqb r.caller i front.0) ∙ ap (λ (l : List Request). r ∷ l) more.0, (front.1, more.1))

pub distinct-push : (rs : List Request) (i : ℕ) (job : Job) → IsDistinct rs → request_by i rs ≡ None → IsDistinct (rs ++ request i job ∷ [])
distinct-push [] i job d fresh = (refl, tt)
distinct-push (r ∷ rs) i job d fresh = dite (ℕ_discrete r.caller i)
    (λ same. let t : Some r.job ≡ None = sym (ap (λ b. cond {A = Option Job} b (Some r.job) (request_by i rs)) (eq-eqb r.caller i same)) ∙ fresh in absurd (cc t))
    (λ other. (
      request_by-push_else r.caller i rs job other ∙ d.0,
      distinct-push rs i job d.1 (sym (ap (λ b. cond {A = Option Job} b (Some r.job) (request_by i rs)) (ne_eqb r.caller i other)) ∙ fresh),
    ))

-- what is in a list with one more number, and what is not
pub is_in-push : (xs : List ℕ) (i k : ℕ) → is_in (xs ++ i ∷ []) k ≡ true → (is_in xs k ≡ true) ⊎ (i ≡ k)
is_in-push [] i k e = inr (go (i == k) refl e)
  where
    go : (b : Bool) → (i == k) ≡ b → (b || false) ≡ true → i ≡ k
    go true same _ = grind (arith, same)
    go false _ e = absurd (cc e)
is_in-push (x ∷ xs) i k e = go (x == k) (is_in-push xs i k) e
  where
    go : (b : Bool) → (is_in (xs ++ i ∷ []) k ≡ true → (is_in xs k ≡ true) ⊎ (i ≡ k)) → (b || is_in (xs ++ i ∷ []) k) ≡ true → ((b || is_in xs k) ≡ true) ⊎ (i ≡ k)
    go true later _ = inl refl
    go false later e = later e

untried-push : (xs : List ℕ) (i k : ℕ) → is_in (xs ++ i ∷ []) k ≡ false → (is_in xs k ≡ false) × (k ≢ i)
untried-push [] i k e = (refl, λ same. let t : true ≡ false = sym (ap (λ b. b || false) (eq-eqb i k (sym same))) ∙ e in absurd (cc t))
untried-push (x ∷ xs) i k e = go (x == k) (untried-push xs i k) e
  where
    go : (b : Bool) → (is_in (xs ++ i ∷ []) k ≡ false → (is_in xs k ≡ false) × (k ≢ i)) → (b || is_in (xs ++ i ∷ []) k) ≡ false → ((b || is_in xs k) ≡ false) × (k ≢ i)
    go true later e = absurd (cc e)
    go false later e = later e

pub orderly_tries : (p : Pass) (i : ℕ) → IsOrderly p → IsOrderly (tries p i)
orderly_tries p i o k e = o k (untried-push p.tried i k e).0

pub orderly_takes : (p : Pass) (i : ℕ) (job : Job) → IsOrderly p → IsOrderly (takes_on p i job)
orderly_takes p i job o k e = let t = untried-push p.tried i k e in request_by-push_else k i p.taken job t.1 ∙ o k t.0

pub orderly_strikes : (p : Pass) (i : ℕ) → IsOrderly p → IsOrderly (strikes p i)
orderly_strikes p i o k e = dite (ℕ_discrete k i) (λ (is : k ≡ i). subst (λ (z : ℕ). request_by z (all_but i p.taken) ≡ None) (sym is) (request_by-all_but i p.taken))
    (λ other. request_by-all_but_else k i p.taken other ∙ o k e)

pub some_request : (asked : Option Job) → IsSome asked → (job : Job) × (asked ≡ Some job)
some_request None is = absurd (cc is)
some_request (Some job) is = (job, refl)

-- the marks after a step at caller i, which alone they say otherwise
marks_set : (marks : List Bool) (i : ℕ) (b : Bool) (rs rs' : List Request) → i < caller_limit → is_some (request_by i rs') ≡ b → ((k : ℕ) → k ≢ i → request_by k rs' ≡ request_by k rs)
    → IsMarked marks rs → IsMarked (set marks i b) rs'
marks_set marks i b rs rs' near here else marked = record {
  long = length-set marks i b ∙ marked.long;
  each = λ k lt. dite (ℕ_discrete k i)
      (λ same. ap (λ (z : ℕ). get_or (set marks i b) z false) same ∙ (get_or-set_same marks i b false (let long = marked.long in omega arith) ∙ (sym here ∙ ap (λ (z : ℕ). is_some (request_by z rs')) (sym same))))
      (λ other. get_or-set_other marks i k b false other ∙ (marked.each k lt ∙ ap is_some (sym (else k other))));
}

pub marks_take : (marks : List Bool) (i : ℕ) (job : Job) (rs : List Request) → i < caller_limit → IsMarked marks rs → IsMarked (set marks i true) (rs ++ request i job ∷ [])
marks_take marks i job rs near marked = marks_set marks i true rs (rs ++ request i job ∷ []) near (ap is_some (middle_asks rs [] i job).1) (λ k other. request_by-push_else k i rs job other) marked

pub marks_strike : (marks : List Bool) (i : ℕ) (rs : List Request) → i < caller_limit → IsMarked marks rs → IsMarked (set marks i false) (all_but i rs)
marks_strike marks i rs near marked = marks_set marks i false rs (all_but i rs) near (ap is_some (request_by-all_but i rs)) (λ k other. request_by-all_but_else k i rs other) marked

-- Each step of a pass leads to the next.
-- `taking_misses` and `taking_hits` are the tries, `taking_batch` says that what was taken may be run, `pass_serves` what the steps
-- behind the tries come to, and `serve_past` what the whole pass does.
use Rattle.std.proofs.Common.{◌≡◌, ◌≢◌, ℕ, zero, suc, ◌+◌, ◌<◌, ◌≤◌, ◌==◌, eq-eqb, ne_eqb, ◌||◌, Bool, true, false, List, [], ◌∷◌, ◌++◌, map, length, take, set, lt_of_not-le, None, refl, sym, ap, ◌∙◌, subst, arith, length-append, vec_capacity}
use Rattle.std.specs.List.{AllByRecursion}
use mathlib.Core.Logic.{dite}
use mathlib.Core.List.{map-append}
use native.Mathlib.Decide.{ℕ_discrete}
use Rattle.call_history.specs.declared.entry.Entry.{Entry}
use Rattle.call_history.specs.declared.request.Request.{Request}
use Rattle.call_history.specs.declared.request.Outcome.{Outcome}
use Rattle.call_history.specs.History.{Begins}
use Rattle.call_history.specs.Callers.{caller_limit}
use Rattle.call_history.specs.Fits.{IsLawfulJob, request, request_by}
use Rattle.call_history.proofs.Serving.{lawful-push, request_by-push_else}
use Rattle.request_slots.specs.declared.desk.Desk.{Desk}
use Rattle.request_slots.specs.declared.known.Known.{Known}
use Rattle.request_slots.specs.Passes.{is_in, tries, takes_on}
use Rattle.request_slots.specs.Changes.{noting, settling}
use Rattle.request_slots.specs.Views.{pass_in, passing, locking, committing, unlocking}
use Rattle.request_slots.proofs.RequestLists.{distinct-push, request_by-middle}
use Rattle.combiner.specs.Passes.{Taking, Telling, IsReadyDesk, IsBatch, HasPassed, asker, past}

is_in-last : (xs : List ℕ) (i : ℕ) → is_in (xs ++ i ∷ []) i ≡ true
is_in-last [] i = ap (λ b. b || false) (eq-eqb i i refl)
is_in-last (x ∷ xs) i = go (x == i) (is_in-last xs i)
  where
    go : (b : Bool) → is_in (xs ++ i ∷ []) i ≡ true → (b || is_in (xs ++ i ∷ []) i) ≡ true
    go true e = refl
    go false e = e

is_in-more : (xs : List ℕ) (i k : ℕ) → k ≢ i → is_in (xs ++ i ∷ []) k ≡ is_in xs k
is_in-more [] i k other = ap (λ b. b || false) (ne_eqb i k (λ e. other (sym e)))
is_in-more (x ∷ xs) i k other = ap (λ b. (x == k) || b) (is_in-more xs i k other)

take-set-push : (xs : List ℕ) (n x : ℕ) → n < length xs → take (n + 1) (set xs n x) ≡ take n xs ++ x ∷ []
take-set-push [] n x lt = absurd (omega arith)
take-set-push (y ∷ xs) zero x lt = refl
take-set-push (y ∷ xs) (suc n) x lt = ap (λ (k : ℕ). take k (y ∷ set xs n x)) more ∙ ap (λ l. y ∷ l) (take-set-push xs n x (omega arith))
  where
    more : suc n + 1 ≡ suc (n + 1)
    more = omega arith

tried_next : (tried : List ℕ) (i : ℕ) → ((k : ℕ) → k < i → is_in tried k ≡ true) → (k : ℕ) → k < i + 1 → is_in (tried ++ i ∷ []) k ≡ true
tried_next tried i below k lt = dite (ℕ_discrete k i) (λ same. subst (λ (z : ℕ). is_in (tried ++ i ∷ []) z ≡ true) (sym same) (is_in-last tried i))
    (λ other. is_in-more tried i k other ∙ below k (omega arith))

-- a word with no request
pub taking_misses : (before now now' : Known) (i : ℕ) (requests : List Request) (numbers : List ℕ) → now' ≡ passing now (tries (pass_in now) i)
    → Taking before now i requests numbers → Taking before now' (i + 1) requests numbers
taking_misses before now now' i requests numbers is t = subst (λ (k : Known). Taking before k (i + 1) requests numbers) (sym is) record {
  has = refl;
  now_is = ap (λ (k : Known). passing k (tries (pass_in now) i)) t.now_is;
  line_is = t.line_is;
  open_yet = t.open_yet;
  tried = tried_next (pass_in now).tried i t.tried;
  untried = λ k le. is_in-more (pass_in now).tried i k (λ e. omega arith) ∙ t.untried k (omega arith);
  untaken = λ k le. t.untaken k (omega arith);
  distinct = t.distinct;
  jobs = t.jobs;
  requests_are = t.requests_are;
  few = let few = t.few in omega arith;
  numbered = t.numbered;
}

-- a request that was taken
pub taking_hits : (before now now' : Known) (i : ℕ) (r : Request) (requests : List Request) (numbers : List ℕ) → r.caller ≡ i → IsLawfulJob r.job → now' ≡ passing now (takes_on (pass_in now) i r.job) → length requests < length numbers
    → Taking before now i requests numbers → Taking before now' (i + 1) (requests ++ r ∷ []) (set numbers (length requests) i)
taking_hits before now now' i r requests numbers at lawful is room t =
    let fresh = t.untaken i (omega arith) in
    let mine : r ≡ request i r.job = ap (λ (k : ℕ). request k r.job) at in
    subst (λ (k : Known). Taking before k (i + 1) (requests ++ r ∷ []) (set numbers (length requests) i)) (sym is) record {
      has = refl;
      now_is = ap (λ (k : Known). passing k (takes_on (pass_in now) i r.job)) t.now_is;
      line_is = t.line_is;
      open_yet = t.open_yet;
      tried = tried_next (pass_in now).tried i t.tried;
      untried = λ k le. is_in-more (pass_in now).tried i k (λ e. omega arith) ∙ t.untried k (omega arith);
      untaken = λ k le. request_by-push_else k i (pass_in now).taken r.job (λ e. omega arith) ∙ t.untaken k (omega arith);
      distinct = distinct-push (pass_in now).taken i r.job t.distinct fresh;
      jobs = lawful-push (pass_in now).taken (request i r.job) t.jobs lawful;
      requests_are = λ j. t.requests_are j ++ mine j ∷ [];
      few = let few = t.few in omega (arith, length-append requests (r ∷ []));
      numbered = ap (λ (k : ℕ). take k (set numbers (length requests) i)) (length-append requests (r ∷ [])) ∙ (take-set-push numbers (length requests) i room
          ∙ (ap (λ l. l ++ i ∷ []) t.numbered ∙ (ap (λ (k : ℕ). map asker requests ++ k ∷ []) (sym at) ∙ sym (map-append asker requests (r ∷ [])))));
    }

-- the same, where its parts have other names
pub taking_same : (before now : Known) (i : ℕ) (requests requests' : List Request) (numbers numbers' : List ℕ) → requests' ≡ requests → numbers' ≡ numbers
    → Taking before now i requests numbers → Taking before now i requests' numbers'
taking_same before now i requests requests' numbers numbers' a b t = subst (λ (z : List Request × (List ℕ)). Taking before now i z.0 z.1) (λ j. (sym a j, sym b j)) t

-- requests of callers below a number
inside_all : (callers : ℕ) (rs : List Request) → ((k : ℕ) → callers ≤ k → request_by k rs ≡ None) → AllByRecursion (λ r. r.caller < callers) rs
inside_all callers [] none = tt
inside_all callers (r ∷ rs) none = (
  lt_of_not-le (λ far. (request_by-middle r.caller r.caller [] rs r.job (none r.caller far)).0 refl),
  inside_all callers rs (λ k far. (request_by-middle k r.caller [] rs r.job (none k far)).1),
)

lawful_all : (callers : ℕ) (rs : List Request) → callers ≤ caller_limit → AllByRecursion (λ r. r.caller < callers) rs → AllByRecursion (λ r. r.caller < caller_limit) rs
lawful_all callers [] small inside = tt
lawful_all callers (r ∷ rs) small inside = let near = inside.0 in (omega arith, lawful_all callers rs small inside.1)

pub taking_batch : (before now : Known) (callers : ℕ) (requests : List Request) (numbers : List ℕ) → callers ≤ caller_limit → Taking before now callers requests numbers → IsBatch callers requests
taking_batch before now callers requests numbers small t =
    let inside = inside_all callers (pass_in now).taken t.untaken in
    subst (IsBatch callers) (sym t.requests_are) record { distinct = t.distinct; inside = inside; lawful = lawful_all callers (pass_in now).taken small inside; jobs = t.jobs }

-- what was taken since the desk was taken is all that the pass has
pub taking_here : (before now : Known) (i : ℕ) (requests : List Request) (numbers : List ℕ) → Taking before now i requests numbers → Taking now now i requests numbers
taking_here before now i requests numbers t = record {
  has = t.has;
  now_is = λ j. record now { pass = t.has j };
  line_is = refl;
  open_yet = t.open_yet;
  tried = t.tried;
  untried = t.untried;
  untaken = t.untaken;
  distinct = t.distinct;
  jobs = t.jobs;
  requests_are = t.requests_are;
  few = t.few;
  numbered = t.numbered;
}

-- the desk, once all words were tried
pub desk_ready : (callers : ℕ) (c k : Known) (line : List Entry) (d : Desk) (requests : List Request) (numbers : List ℕ) → Taking c k callers requests numbers → c.standing.number < callers → c.standing.held ≡ true
    → Begins c.standing.seen line → (pass_in c).line ≡ line → d.requests.items ≡ requests → d.book.history ≡ line → d.book.bounds ≡ c.standing.bounds → d.outcomes.items ≡ [] → callers ≤ vec_capacity d.requests
    → callers ≤ vec_capacity d.outcomes → IsReadyDesk callers k numbers d
desk_ready callers c k line d requests numbers t inside held saw had taken_are history_is bounds_is none first second = record {
  taken = subst (λ (rs : List Request). Taking k k callers rs numbers) (sym taken_are) (taking_here c k callers requests numbers t);
  inside = subst (λ (z : Known). z.standing.number < callers) (sym t.now_is) inside;
  held = ap (λ (z : Known). z.standing.held) t.now_is ∙ held;
  begins = subst (λ (z : Known). Begins z.standing.seen d.book.history) (sym t.now_is) (subst (Begins c.standing.seen) (sym history_is) saw);
  line_is = history_is ∙ (sym had ∙ sym t.line_is);
  bounds_is = bounds_is ∙ sym (ap (λ (z : Known). z.standing.bounds) t.now_is);
  no_outcomes = none;
  request_spaces = first;
  outcome_spaces = second;
}

-- the steps of a pass that has tried all words, one after the other
pub pass_serves : (callers : ℕ) (c k3 k4 k5 : Known) (book : List Entry) (outcomes : List Outcome) (requests : List Request) (numbers : List ℕ) → Taking c c callers requests numbers → c.standing.held ≡ true
    → Begins c.standing.seen book → k3 ≡ committing c (pass_in c) book outcomes → Telling callers k3 k4 [] numbers 0 → k5 ≡ unlocking k4 (pass_in k4) → c.standing.number < callers → HasPassed c k5 (length requests)
pass_serves callers c k3 k4 k5 book outcomes requests numbers t held saw committed told unlocked inside =
    let fourth : k4 ≡ passing (committing c (pass_in c) book outcomes) (pass_in k4) = told.now_is ∙ ap (λ (k : Known). passing k (pass_in k4)) committed in
    let fifth : k5 ≡ unlocking (passing (committing c (pass_in c) book outcomes) (pass_in k4)) (pass_in k4) = unlocked ∙ ap (λ (k : Known). unlocking k (pass_in k4)) fourth in
    let seen : (pass_in k4).line ≡ book = told.line_is ∙ ap (λ (k : Known). (pass_in k).line) committed in
    let tried : is_in (pass_in k4).tried c.standing.number ≡ true =
    ap (λ (l : List ℕ). is_in l c.standing.number) (told.tried_is ∙ ap (λ (k : Known). (pass_in k).tried) committed) ∙ t.tried c.standing.number inside in
    let counted : length requests ≡ length (pass_in c).taken = ap length t.requests_are in (
      book,
      saw,
      fifth ∙ (λ i. record c { standing = record (settling (noting c.standing (sym counted i)) (seen i) (tried i)) { held = held i }; pass = None }),
    )

-- a pass, from before the desk was taken
pub serve_past : (c k1 k2 k5 : Known) (line : List Entry) (count : ℕ) → k1 ≡ locking c line → k2 ≡ passing k1 (pass_in k2) → HasPassed k2 k5 count → HasPassed c k5 count
serve_past c k1 k2 k5 line count locked taken h =
    let second : k2 ≡ passing (locking c line) (pass_in k2) = taken ∙ ap (λ (k : Known). passing k (pass_in k2)) locked in
    (h.0, subst (λ (k : Known). Begins k.standing.seen h.0) second h.1, h.2 ∙ ap (λ (k : Known). past k h.0 count) second)

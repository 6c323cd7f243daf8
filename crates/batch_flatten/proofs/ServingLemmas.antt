-- A batch under way goes on by one turn: `serving_start`, `serving_turn` and `serving_end`. What was back stays back but at the
-- place of the turn (`back-turn`), and what takes no memory is answered there (`sure-turn`).
use Rattle.std.proofs.Common.{◌≡◌, ◌⊎◌, ⊎_elim, inl, inr, ℕ, zero, suc, ◌<◌, ◌≤◌, ◌+◌, All, true, false, cond, List, [], ◌∷◌, ◌++◌, length, map, filter, take, Option, Some, refl, sym, ap, ◌∙◌, subst, arith, append-nil, append_assoc, get_or, slice_get, slice_index, set}
use Rattle.std.specs.List.{AllPairs, flat_map, zip}
use Rattle.std.specs.Option.{option_map}
use Rattle.std.proofs.lemmas.List.{length-map, length-set, map-append, take_more}
use Rattle.std.proofs.lemmas.List.Concat.{flat_map-append}
use Rattle.std.proofs.lemmas.List.Elements.{filter-append}
use Rattle.std.proofs.lemmas.List.Sums.{sum_by-cons}
use Rattle.std.proofs.lemmas.Option.{slice_get-get_or}
use mathlib.Core.Logic.{dite}
use native.Mathlib.Decide.{ℕ_discrete}
use Rattle.vector_memory.specs.declared.bounds.Bounds.{Bounds}
use Rattle.cvl_text.specs.declared.call.Call.{Call}
use Rattle.cvl_text.specs.Tasks.{task_of}
use Rattle.cvl_calls.specs.Runs.{TakesNoMemory}
use Rattle.cvl_calls.proofs.Joined.{slice_get-take}
use Rattle.call_history.specs.declared.entry.Entry.{Entry}
use Rattle.call_history.specs.declared.request.Job.{Job}
use Rattle.call_history.specs.declared.request.Job.TheVariants.{One, Many}
use Rattle.call_history.specs.declared.request.Request.{Request}
use Rattle.call_history.specs.declared.request.Outcome.{Outcome}
use Rattle.call_history.specs.declared.request.Outcome.TheVariants.{Answered, Refused, AnsweredBlock, RefusedBlock}
use Rattle.vector_memory.specs.States.{empty}
use Rattle.call_history.specs.Blocks.{Whole, after, block_entries}
use Rattle.call_history.specs.Books.{BookState, memory_of}
use Rattle.call_history.specs.Callers.{next_before}
use Rattle.call_history.specs.Fits.{Fits, IsAskedAt, IsOfJob, StandsAt, calls_of, fate_of, handed_back, request, returned}
use Rattle.call_history.specs.History.{replay, replies_from}
use Rattle.call_history.proofs.Blocks.{Whole-grown, calls-block, replay_from-after}
use Rattle.call_history.proofs.InPlace.{fits_answered_at, fits_returned}
use Rattle.call_history.proofs.Replays.{replay_from-append}
use Rattle.batch_flatten.specs.Waves.{asked, count_of, by_waves, waves_of}
use Rattle.batch_flatten.specs.Places.{IsOutside, at_places, places_of_first}
use Rattle.batch_flatten.specs.Batches.{HasAnswer, RunsJob, ServesInOrder, StaysWith, answered, call_by, calls_asked, calls_back, is_answered}
use Rattle.batch_flatten.specs.Counts.{count_back}
use Rattle.batch_flatten.specs.Serving.{AnswersIfSure, AnswersSure, AreAskedBy, RunsBack, Serving, TurnsMemory, WereBack, caller_of}
use Rattle.batch_flatten.proofs.PlaceLemmas.{at_places-in_order, at_places-push, place_in, rising-outside, set_itself, slice_get-set_else, slice_get-set_here}

outside-parts : (done more : List ℕ) (place : ℕ) → IsOutside (done ++ more) place → IsOutside done place × IsOutside more place
outside-parts [] more place out = (tt, out)
outside-parts (p ∷ ps) more place out = let rest = outside-parts ps more place out.1 in ((out.0, rest.0), rest.1)

pub outside-append : (done more : List ℕ) (place : ℕ) → IsOutside done place → IsOutside more place → IsOutside (done ++ more) place
outside-append [] more place out others = others
outside-append (p ∷ ps) more place out others = (out.0, outside-append ps more place out.1 others)

zip-set : (rs : List Request) (os : List Outcome) (i : ℕ) (r : Request) (o : Outcome) → slice_get rs i ≡ Some r → zip rs (set os i o) ≡ set (zip rs os) i (r, o)
zip-set [] os i r o there = absurd cc
zip-set (x ∷ rs) [] i r o there = refl
zip-set (x ∷ rs) (y ∷ os) zero r o there = let same : x ≡ r = cc in ap (λ (z : Request). (z, o) ∷ zip rs os) same
zip-set (x ∷ rs) (y ∷ os) (suc i) r o there = ap (λ l. (x, y) ∷ l) (zip-set rs os i r o there)

slice_get-zip : (rs : List Request) (os : List Outcome) (i : ℕ) (r : Request) (o : Outcome) → slice_get rs i ≡ Some r → slice_get os i ≡ Some o → slice_get (zip rs os) i ≡ Some (r, o)
slice_get-zip [] os i r o there has = absurd cc
slice_get-zip (x ∷ rs) [] i r o there has = absurd cc
slice_get-zip (x ∷ rs) (y ∷ os) zero r o there has = let same : x ≡ r = cc in let here : y ≡ o = cc in λ j. Some (same j, here j)
slice_get-zip (x ∷ rs) (y ∷ os) (suc i) r o there has = slice_get-zip rs os i r o there has

answered-append : (ps qs : List (Request × Outcome)) → answered (ps ++ qs) ≡ answered ps ++ answered qs
answered-append ps qs = ap (map (λ p. p.0)) (filter-append (λ p. is_answered p.1) ps qs) ∙ map-append (λ p. p.0) (filter (λ p. is_answered p.1) ps) (filter (λ p. is_answered p.1) qs)

-- the job ran behind the history
abbrev JobRan : BookState → BookState → ℕ → Job → Outcome → Type 0
JobRan old new k job o =
    IsOfJob job o × (is_answered o ≡ true) × (new.bounds ≡ old.bounds) × (new.history ≡ old.history ++ block_entries old.history k (calls_of job))
    × (fate_of o ≡ StandsAt (length old.history) (replies_from (memory_of old) (block_entries old.history k (calls_of job))))

-- a job ran, or it came back
job-cases : (old new : BookState) (k : ℕ) (job : Job) (o : Outcome) → RunsJob old new k job o → JobRan old new k job o ⊎ StaysWith old new (handed_back job) o
job-cases old new k (One call) (Answered place reply) runs = inl (tt, refl, runs.0, runs.1, λ j. StandsAt (runs.2 j) (runs.3 j))
job-cases old new k (One call) (Refused back) runs = inr runs
job-cases old new k (One call) (AnsweredBlock place replies) runs = inr runs
job-cases old new k (One call) (RefusedBlock back) runs = inr runs
job-cases old new k (Many calls) (Answered place reply) runs = inr runs
job-cases old new k (Many calls) (Refused back) runs = inr runs
job-cases old new k (Many calls) (AnsweredBlock place replies) runs = inl (tt, refl, runs.0, runs.1, λ j. StandsAt (runs.2 j) (runs.3 j))
job-cases old new k (Many calls) (RefusedBlock back) runs = inr runs

not-answered : (job : Job) → is_answered (handed_back job) ≡ false
not-answered (One call) = refl
not-answered (Many calls) = refl

-- the calls of a block, with their caller
block-calls : (history : List Entry) (k : ℕ) (calls : List Call) → map call_by (block_entries history k calls) ≡ map (λ c. (k, c)) calls
block-calls history k [] = refl
block-calls history k (c ∷ cs) = ap (λ (l : List (ℕ × Call)). (k, c) ∷ l) (block-calls (history ++ next_before history k c (length cs) ∷ []) k cs)

-- the outcome at a place that had no turn is the job back
waits : (bounds : Bounds) (line : List Entry) (rs : List Request) (done : List ℕ) (place : ℕ) (mid : List Entry) (os : List Outcome) (k : ℕ) (job : Job) → Serving bounds line rs done mid os → IsOutside done place
    → IsAskedAt rs place k job → slice_get os place ≡ Some (handed_back job)
waits bounds line rs done place mid os k job s out at = s.waiting place out ∙ ap (option_map returned) at.there

still_wait : (rs : List Request) (done : List ℕ) (place : ℕ) (os : List Outcome) (o : Outcome) → ((p : ℕ) → IsOutside done p → slice_get os p ≡ option_map returned (slice_get rs p))
    → (p : ℕ) → IsOutside (done ++ place ∷ []) p → slice_get (set os place o) p ≡ option_map returned (slice_get rs p)
still_wait rs done place os o waiting p out =
    let parts = outside-parts done (place ∷ []) p out in
    slice_get-set_else os place p o (λ e. parts.1.0 (sym e)) ∙ waiting p parts.0

-- the calls that were answered
abbrev answered_calls : List (Request × Outcome) → List (ℕ × Call)
answered_calls ps = flat_map calls_asked (answered ps)

turn-done : (rs : List Request) (done : List ℕ) (place : ℕ) (os : List Outcome) (r : Request) (was o : Outcome) → IsOutside done place → slice_get rs place ≡ Some r → slice_get os place ≡ Some was
    → answered_calls (at_places (zip rs (set os place o)) (done ++ place ∷ [])) ≡ answered_calls (at_places (zip rs os) done) ++ answered_calls ((r, o) ∷ [])
turn-done rs done place os r was o out asked has =
    ap (λ ps. answered_calls (at_places ps (done ++ place ∷ []))) (zip-set rs os place r o asked)
    ∙ ap answered_calls (at_places-push (zip rs os) place (r, was) (r, o) done out (slice_get-zip rs os place r was asked has))
    ∙ ap (flat_map calls_asked) (answered-append (at_places (zip rs os) done) ((r, o) ∷ []))
    ∙ flat_map-append calls_asked (answered (at_places (zip rs os) done)) (answered ((r, o) ∷ []))

one-answered : (r : Request) (o : Outcome) → is_answered o ≡ true → answered_calls ((r, o) ∷ []) ≡ calls_asked r
one-answered r o e = ap (λ b. flat_map calls_asked (map (λ (p : Request × Outcome). p.0) (cond b ((r, o) ∷ []) []))) e ∙ append-nil (calls_asked r)

none-answered : (r : Request) (o : Outcome) → is_answered o ≡ false → answered_calls ((r, o) ∷ []) ≡ []
none-answered r o e = ap (λ b. flat_map calls_asked (map (λ (p : Request × Outcome). p.0) (cond b ((r, o) ∷ []) []))) e

module _ (bounds : Bounds) (line : List Entry) (rs : List Request) (done : List ℕ) (place : ℕ) (old new : BookState) (os : List Outcome) (k : ℕ) (job : Job) (o : Outcome) (same : old.bounds ≡ bounds) (s : Serving bounds line rs done old.history os) (out : IsOutside done place) (asks : IsAskedAt rs place k job) where
  abbrev block : List Entry
  block = block_entries old.history k (calls_of job)

  back : slice_get os place ≡ Some (handed_back job)
  back = waits bounds line rs done place old.history os k job s out asks

  serving_ran : JobRan old new k job o → Serving bounds line rs (done ++ place ∷ []) new.history (set os place o)
  serving_ran ran = record {
    fits = subst (λ (l : List Entry). Fits bounds line rs l (set os place o)) (sym ran.3)
        (fits_answered_at bounds line old.history rs os place k job o asks back ran.0 (ran.4 ∙ ap (λ (r : Bounds). StandsAt (length old.history) (replies_from (replay r old.history) block)) same) s.whole s.fits);
    paired = length-set os place o ∙ s.paired;
    added = s.added ++ block;
    grown = ran.3 ∙ ap (λ l. l ++ block) s.grown ∙ append_assoc line s.added block;
    ordered = map-append call_by s.added block ∙ ap (λ l. l ++ map call_by block) s.ordered
        ∙ ap (λ l. answered_calls (at_places (zip rs os) done) ++ l) (block-calls old.history k (calls_of job) ∙ sym (one-answered (request k job) o ran.1))
        ∙ sym (turn-done rs done place os (request k job) (handed_back job) o out asks.there back);
    whole = subst Whole (sym ran.3) (Whole-grown old.history k (calls_of job) s.whole);
    waiting = still_wait rs done place os o s.waiting;
  }

  serving_stays : StaysWith old new (handed_back job) o → Serving bounds line rs (done ++ place ∷ []) new.history (set os place o)
  serving_stays stays = record {
    fits = subst (λ (z : List Entry × (List Outcome)). Fits bounds line rs z.0 z.1)
        (λ j. (sym stays.1 j, sym (ap (set os place) stays.2 ∙ set_itself os place (handed_back job) back) j)) s.fits;
    paired = length-set os place o ∙ s.paired;
    added = s.added;
    grown = stays.1 ∙ s.grown;
    ordered = s.ordered ∙ sym (append-nil (answered_calls (at_places (zip rs os) done)))
        ∙ ap (λ l. answered_calls (at_places (zip rs os) done) ++ l) (sym (none-answered (request k job) o (ap is_answered stays.2 ∙ not-answered job)))
        ∙ sym (turn-done rs done place os (request k job) (handed_back job) o out asks.there back);
    whole = subst Whole (sym stays.1) s.whole;
    waiting = still_wait rs done place os o s.waiting;
  }

  serving_run : RunsJob old new k job o → Serving bounds line rs (done ++ place ∷ []) new.history (set os place o)
  serving_run runs = ⊎_elim serving_ran serving_stays (job-cases old new k job o runs)

slice_index-at : (ns : List ℕ) (i n : ℕ) → slice_get ns i ≡ Some n → slice_index ns i ≡ n
slice_index-at [] i n h = absurd cc
slice_index-at (m ∷ ns) zero n h = cc
slice_index-at (m ∷ ns) (suc i) n h = slice_index-at ns i n h

slice_get-callers : (rs : List Request) (i : ℕ) (r : Request) → slice_get rs i ≡ Some r → slice_get (map caller_of rs) i ≡ Some r.caller
slice_get-callers [] i r there = absurd cc
slice_get-callers (x ∷ rs) zero r there = let same : x ≡ r = cc in ap (λ (z : Request). Some z.caller) same
slice_get-callers (x ∷ rs) (suc i) r there = slice_get-callers rs i r there

pub caller_here : (rs : List Request) (callers : List ℕ) (i : ℕ) (r : Request) → AreAskedBy rs callers → i < length rs → slice_get rs i ≡ Some r → slice_index callers i ≡ r.caller
caller_here rs callers i r by lt there =
    slice_index-at callers i r.caller (sym (slice_get-take callers (length rs) i lt) ∙ ap (λ (l : List ℕ). slice_get l i) by.callers_are ∙ slice_get-callers rs i r there)

-- what is read at a place stands there
pub stands-here : (os : List Outcome) (place n : ℕ) (was : Outcome) → place < n → n ≡ length os → was ≡ get_or os place was → slice_get os place ≡ Some was
stands-here os place n was lt long is = slice_get-get_or os place was (omega arith) ∙ ap (λ (o : Outcome). Some o) (sym is)

-- what is read at the place of a position stands there
pub stands-at : (os : List Outcome) (ps : List ℕ) (b place : ℕ) (o : Outcome) → All (λ p. p < length os) ps → b < length ps → place ≡ slice_index ps b → o ≡ get_or os place o → slice_get os (slice_index ps b) ≡ Some o
stands-at os ps b place o within lt is read =
    ap (slice_get os) (sym is) ∙ stands-here os place (length os) o (let low : slice_index ps b < length os = within b 0 lt in omega arith) refl read

pub some_of : (a b : Outcome) → ◌≡◌ {A = Option Outcome} (Some a) (Some b) → a ≡ b
some_of a b e = cc

back-runs : (old new : BookState) (k : ℕ) (job : Job) (o : Outcome) → RunsBack old new k (handed_back job) o → RunsJob old new k job o
back-runs old new k (One call) o runs = runs
back-runs old new k (Many calls) o runs = runs

-- the turn of the job at a place
pub serving_turn : (bounds : Bounds) (line : List Entry) (rs : List Request) (callers done : List ℕ) (place : ℕ) (old new : BookState) (os : List Outcome) (was o : Outcome) → old.bounds ≡ bounds → place < length os
    → AreAskedBy rs callers → IsOutside done place → slice_get os place ≡ Some was → RunsBack old new (slice_index callers place) was o
    → Serving bounds line rs done old.history os → Serving bounds line rs (done ++ place ∷ []) new.history (set os place o)
serving_turn bounds line rs callers done place old new os was o same within by out has ran s =
    let paired = s.paired in
    let lt : place < length rs = omega arith in
    let found = place_in rs place lt in
    let r = found.0 in
    let asks : IsAskedAt rs place r.caller r.job = by.each place r.caller r.job found.1 in
    let back = waits bounds line rs done place old.history os r.caller r.job s out asks in
    let is : was ≡ handed_back r.job = some_of was (handed_back r.job) (sym has ∙ back) in
    let ran_back : RunsBack old new (slice_index callers place) (handed_back r.job) o = subst (λ (z : Outcome). RunsBack old new (slice_index callers place) z o) is ran in
    let own : RunsJob old new r.caller r.job o = subst (λ (k : ℕ). RunsJob old new k r.job o) (caller_here rs callers place r by lt found.1) (back-runs old new (slice_index callers place) r.job o ran_back) in
    serving_run bounds line rs done place old new os r.caller r.job o same s out asks own

pub serving_start : (bounds : Bounds) (line : List Entry) (rs : List Request) → Whole line → Serving bounds line rs [] line (map returned rs)
serving_start bounds line rs whole = record {
  fits = fits_returned bounds line rs;
  paired = length-map rs returned;
  added = [];
  grown = sym (append-nil line);
  ordered = refl;
  whole = whole;
  waiting = λ place out. at_place rs place;
}
  where
    at_place : (qs : List Request) (j : ℕ) → slice_get (map returned qs) j ≡ option_map returned (slice_get qs j)
    at_place [] j = refl
    at_place (q ∷ qs) zero = refl
    at_place (q ∷ qs) (suc j) = at_place qs j

-- what is back behind a turn was back
run-back : (old new : BookState) (k : ℕ) (was o : Outcome) → RunsBack old new k was o → is_answered o ≡ false → was ≡ o
run-back old new k (Answered place reply) o runs lacks = sym runs.2
run-back old new k (AnsweredBlock place replies) o runs lacks = sym runs.2
run-back old new k (Refused c) (Answered place reply) runs lacks = absurd cc
run-back old new k (Refused c) (Refused back) runs lacks = sym runs.2
run-back old new k (Refused c) (AnsweredBlock place replies) runs lacks = sym runs.2
run-back old new k (Refused c) (RefusedBlock back) runs lacks = sym runs.2
run-back old new k (RefusedBlock calls) (Answered place reply) runs lacks = sym runs.2
run-back old new k (RefusedBlock calls) (Refused back) runs lacks = sym runs.2
run-back old new k (RefusedBlock calls) (AnsweredBlock place replies) runs lacks = absurd cc
run-back old new k (RefusedBlock calls) (RefusedBlock back) runs lacks = sym runs.2

-- what is back behind the turn was back before
pub back-turn : (old new : BookState) (k : ℕ) (os : List Outcome) (place : ℕ) (was o : Outcome) → slice_get os place ≡ Some was → RunsBack old new k was o → WereBack os (set os place o)
back-turn old new k os place was o there runs j u at lacks = dite (ℕ_discrete j place)
    (λ same. let here : o ≡ u = some_of o u (sym (slice_get-set_here os place was o there) ∙ ap (slice_get (set os place o)) (sym same) ∙ at) in
    ap (slice_get os) same ∙ there ∙ ap (λ (z : Outcome). Some z) (run-back old new k was o runs (ap is_answered here ∙ lacks) ∙ here))
    (λ other. sym (slice_get-set_else os place j o other) ∙ at)

same-memory : (old new : BookState) → new.bounds ≡ old.bounds → new.history ≡ old.history → memory_of new ≡ memory_of old
same-memory old new rooms histories = λ j. replay (rooms j) (histories j)

grown-memory : (old new : BookState) (k : ℕ) (calls : List Call) → new.bounds ≡ old.bounds → new.history ≡ old.history ++ block_entries old.history k calls → memory_of new ≡ after (memory_of old) calls
grown-memory old new k calls rooms grows =
    (λ j. replay (rooms j) (grows j))
    ∙ replay_from-append (empty old.bounds) old.history (block_entries old.history k calls)
    ∙ replay_from-after (memory_of old) (block_entries old.history k calls)
    ∙ ap (after (memory_of old)) (calls-block old.history k calls)

job-memory : (old new : BookState) (k : ℕ) (job : Job) (o : Outcome) → RunsJob old new k job o → (memory_of new ≡ memory_of old) ⊎ (memory_of new ≡ after (memory_of old) (calls_of job))
job-memory old new k job o runs = ⊎_elim
    (λ ran. inr (grown-memory old new k (calls_of job) ran.2 ran.3))
    (λ stays. inl (same-memory old new stays.0 stays.1))
    (job-cases old new k job o runs)

-- the memory behind a turn
pub turn-memory : (old new : BookState) (k : ℕ) (was o : Outcome) → RunsBack old new k was o → TurnsMemory (memory_of old) (memory_of new) was
turn-memory old new k (Answered place reply) o runs = inl (same-memory old new runs.0 runs.1)
turn-memory old new k (AnsweredBlock place replies) o runs = inl (same-memory old new runs.0 runs.1)
turn-memory old new k (Refused c) o runs = job-memory old new k (One c) o runs
turn-memory old new k (RefusedBlock calls) o runs = job-memory old new k (Many calls) o runs

-- how many calls are back where one outcome is another
pub back-set : (os : List Outcome) (place : ℕ) (was o : Outcome) → slice_get os place ≡ Some was → count_back (set os place o) + length (calls_back was) ≡ count_back os + length (calls_back o)
back-set [] place was o there = absurd cc
back-set (x ∷ os) zero was o there =
    let same : x ≡ was = cc in
    let here = ap (λ (z : Outcome). length (calls_back z)) same in
    let now = sum_by-cons (λ (z : Outcome). length (calls_back z)) o os in
    let before = sum_by-cons (λ (z : Outcome). length (calls_back z)) x os in
    omega arith
back-set (x ∷ os) (suc place) was o there =
    let rest = back-set os place was o there in
    let now = sum_by-cons (λ (z : Outcome). length (calls_back z)) x (set os place o) in
    let before = sum_by-cons (λ (z : Outcome). length (calls_back z)) x os in
    omega arith

-- those at one place are among them
pub back-at : (os : List Outcome) (place : ℕ) (was : Outcome) → slice_get os place ≡ Some was → length (calls_back was) ≤ count_back os
back-at [] place was there = absurd cc
back-at (x ∷ os) zero was there =
    let same : x ≡ was = cc in
    let here = ap (λ (z : Outcome). length (calls_back z)) same in
    let before = sum_by-cons (λ (z : Outcome). length (calls_back z)) x os in
    omega arith
back-at (x ∷ os) (suc place) was there =
    let rest = back-at os place was there in
    let before = sum_by-cons (λ (z : Outcome). length (calls_back z)) x os in
    omega arith

pub back-again : (first mid last : List Outcome) → WereBack first mid → WereBack mid last → WereBack first last
back-again first mid last one two i o at lacks = one i o (two i o at lacks) lacks

sure-here : (was o : Outcome) (c : Call) → (o ≡ Refused c → was ≡ Refused c) → AnswersIfSure was o → o ≡ Refused c → TakesNoMemory (task_of c).word → ⊥
sure-here (Answered place reply) o c back sure is none = let other : Answered place reply ≡ Refused c = back is in absurd cc
sure-here (AnsweredBlock place replies) o c back sure is none = let other : AnsweredBlock place replies ≡ Refused c = back is in absurd cc
sure-here (RefusedBlock calls) o c back sure is none = let other : RefusedBlock calls ≡ Refused c = back is in absurd cc
sure-here (Refused b) o c back sure is none =
    let same : b ≡ c = inside b c (back is) in
    let answered : HasAnswer o = sure (subst (λ (z : Call). TakesNoMemory (task_of z).word) (sym same) none) in
    subst HasAnswer is answered
  where
    inside : (a d : Call) → Refused a ≡ Refused d → a ≡ d
    inside a d e = cc

-- a call that takes no memory and is back behind the turn has not had its own
pub sure-turn : (old new : BookState) (k : ℕ) (os : List Outcome) (done : List ℕ) (place : ℕ) (was o : Outcome) → slice_get os place ≡ Some was → RunsBack old new k was o → AnswersIfSure was o
    → AnswersSure os done → AnswersSure (set os place o) (done ++ place ∷ [])
sure-turn old new k os done place was o there runs sure all = record { waits = waits_at }
  where
    waits_at : (j : ℕ) (c : Call) → slice_get (set os place o) j ≡ Some (Refused c) → TakesNoMemory (task_of c).word → IsOutside (done ++ place ∷ []) j
    waits_at j c at none = dite (ℕ_discrete j place)
        (λ same. let here : o ≡ Refused c = some_of o (Refused c) (sym (slice_get-set_here os place was o there) ∙ ap (slice_get (set os place o)) (sym same) ∙ at) in
        absurd (sure-here was o c (λ is. run-back old new k was o runs (ap is_answered is) ∙ is) sure here none))
        (λ other. outside-append done (place ∷ []) j (all.waits j c (sym (slice_get-set_else os place j o other) ∙ at) none) ((λ e. other (sym e)), tt))

-- the places of a wave that had their turns, and one more
pub one-more : (done ps : List ℕ) (k : ℕ) → k < length ps → done ++ take k ps ++ slice_index ps k ∷ [] ≡ done ++ take (k + 1) ps
one-more done ps k lt = append_assoc done (take k ps) (slice_index ps k ∷ []) ∙ ap (λ l. done ++ l) (sym (take_more ps k 0 lt))

pub serving_more : (bounds now : Bounds) (line mid : List Entry) (rs : List Request) (done ps : List ℕ) (k place : ℕ) (os : List Outcome) → now ≡ bounds → place ≡ slice_index ps k → k < length ps
    → All (IsOutside done) ps → AllPairs (λ p q. p < q) ps → Serving bounds line rs (done ++ take k ps) mid os
    → (new : List Entry) (after : List Outcome) → (IsOutside (done ++ take k ps) place → Serving now line rs (done ++ take k ps) mid os → Serving now line rs (done ++ take k ps ++ place ∷ []) new after)
    → Serving bounds line rs (done ++ take (k + 1) ps) new after
serving_more bounds now line mid rs done ps k place os rooms is lt outside rising s new after turn =
    let out : IsOutside (done ++ take k ps) place = subst (IsOutside (done ++ take k ps)) (sym is) (outside-append done (take k ps) (slice_index ps k) (outside k 0 lt) (rising-outside ps k rising lt)) in
    let at_room = subst (λ (r : Bounds). Serving r line rs (done ++ take k ps) mid os) (sym rooms) s in
    subst (λ (l : List ℕ). Serving bounds line rs l new after) (ap (λ (p : ℕ). done ++ take k ps ++ p ∷ []) is ∙ one-more done ps k lt)
    (subst (λ (r : Bounds). Serving r line rs (done ++ take k ps ++ place ∷ []) new after) rooms (turn out at_room))

-- one more wave
pub serving_wave : (bounds now : Bounds) (line mid : List Entry) (rs : List Request) (done ps all : List ℕ) (os : List Outcome) (new : List Entry) (after : List Outcome) → now ≡ bounds → done ++ ps ≡ all
    → All (IsOutside done) ps → Serving bounds line rs done mid os → (All (IsOutside done) ps → Serving now line rs done mid os → Serving now line rs (done ++ ps) new after) → Serving bounds line rs all new after
serving_wave bounds now line mid rs done ps all os new after rooms next outside s turns =
    subst (λ (l : List ℕ). Serving bounds line rs l new after) next
    (subst (λ (r : Bounds). Serving r line rs (done ++ ps) new after) rooms (turns outside (subst (λ (r : Bounds). Serving r line rs done mid os) (sym rooms) s)))

-- behind the last wave
pub serving_end : (bounds : Bounds) (line : List Entry) (rs : List Request) (ws : List ℕ) (mid : List Entry) (os : List Outcome) → ws ≡ waves_of (map asked rs) → length ws ≡ length (zip rs os)
    → Serving bounds line rs (places_of_first ws (count_of ws)) mid os → ServesInOrder bounds line rs mid os
serving_end bounds line rs ws mid os are long s = record {
  fits = s.fits;
  paired = s.paired;
  added = s.added;
  grown = s.grown;
  ordered = s.ordered ∙ ap answered_calls (at_places-in_order (zip rs os) ws long) ∙ ap (λ (vs : List ℕ). answered_calls (by_waves vs (zip rs os))) are;
  whole = s.whole;
}

-- A whole batch: its waves are few (`below-made`) and its requests asked for once (`asked_once`); from its start to its end
-- (`batch_done`, `batch_sure`), and where each job came back (`batch_back`).
use Rattle.std.proofs.Common.{◌≡◌, ◌≢◌, ℕ, zero, suc, ◌+◌, ◌-◌, ◌<◌, ◌≤◌, false, cond, List, [], ◌∷◌, ◌++◌, filter, length, map, Option, Some, None, refl, Vec, Global, sym, ap, ◌∙◌, subst, arith, append-nil, length-append, ne_eqb, get_or, replicate, slice_get, slice_index, sum_by, take}
use Rattle.std.specs.List.{AllByRecursion, AllPairs, cons_option, flat_map, zip}
use Rattle.std.proofs.lemmas.List.{get_or-map, get_or-take, length-map, take_at}
use Rattle.std.proofs.lemmas.List.Sums.{sum_by-cons}
use Rattle.std.proofs.lemmas.Option.{get_or_from_slice_get, slice_get_within}
use Rattle.std.proofs.lemmas.Slice.Zip.{length-zip}
use Rattle.vector_memory.specs.declared.bounds.Bounds.{Bounds}
use Rattle.cvl_text.specs.declared.call.Call.{Call}
use Rattle.cvl_text.specs.declared.word.Word.{Word}
use Rattle.cvl_text.specs.declared.word.Word.TheVariants.{SetInts}
use Rattle.cvl_text.specs.Tasks.{Task, task_of}
use Rattle.cvl_calls.specs.Runs.{TakesNoMemory}
use Rattle.call_history.specs.declared.entry.Entry.{Entry}
use Rattle.call_history.specs.declared.request.Job.{Job}
use Rattle.call_history.specs.declared.request.Job.TheVariants.{One, Many}
use Rattle.call_history.specs.declared.request.Request.{Request}
use Rattle.call_history.specs.declared.request.Outcome.{Outcome}
use Rattle.call_history.specs.declared.request.Outcome.TheVariants.{Answered, Refused, AnsweredBlock, RefusedBlock}
use Rattle.call_history.specs.Blocks.{Whole}
use Rattle.call_history.specs.Fits.{IsAskedAt, IsLawfulJob, calls_of, handed_back, request, request_by, returned}
use Rattle.batch_flatten.specs.Waves.{asked, count_of, wave_of, waves_behind, waves_of}
use Rattle.batch_flatten.specs.Places.{IsOutside, at_places, places_of_first}
use Rattle.batch_flatten.specs.Batches.{AnswersAllSure, HasAnswer, NeedsNoMemory, ServesInOrder, answered, calls_asked, calls_back, is_answered, tasks_back}
use Rattle.batch_flatten.specs.Counts.{block_size, count_back, kernel_bound, kernels_below, size_asked, size_back, sizes_back, wave_count, word_asked, word_of_job}
use Rattle.batch_flatten.specs.Joining.{AreNoted}
use Rattle.batch_flatten.specs.Serving.{AnswersSure, AreApart, AreAskedBy, AreLawful, IsLawfulBack, Serving, WereBack, caller_of}
use Rattle.batch_flatten.proofs.ApartLemmas.{waves-apart}
use Rattle.batch_flatten.proofs.PlaceLemmas.{at_places-in_order, place_in}
use Rattle.batch_flatten.proofs.ServingLemmas.{serving_end, serving_start}
use Rattle.batch_flatten.proofs.WaveLemmas.{length-waves_of, wave_of-le}
use Rattle.batch_flatten.proofs.WavePlaces.{each-placed}

waves-below : (n : ℕ) (before : List (ℕ × (List Task))) (ts : List (List Task)) → length before + length ts ≤ n → (i : ℕ) → 0 < n → slice_index (waves_behind before ts) i < n
waves-below n before [] le i some = some
waves-below n before (t ∷ ts) le zero some = let least = wave_of-le before t in omega arith
waves-below n before (t ∷ ts) le (suc i) some =
    let more = length-append before ((wave_of before t, t) ∷ []) in
    waves-below n (before ++ (wave_of before t, t) ∷ []) ts (omega arith) i some

zeros-below : (n k i : ℕ) → 0 < n → slice_index (replicate k 0) i < n
zeros-below n zero i some = some
zeros-below n (suc k) zero some = some
zeros-below n (suc k) (suc i) some = zeros-below n k i some

index-append : (n : ℕ) (ws vs : List ℕ) → ((i : ℕ) → slice_index ws i < n) → ((i : ℕ) → slice_index vs i < n) → (i : ℕ) → slice_index (ws ++ vs) i < n
index-append n [] vs all more i = more i
index-append n (w ∷ ws) vs all more zero = all 0
index-append n (w ∷ ws) vs all more (suc i) = index-append n ws vs (λ j. all (suc j)) more i

-- the waves of a batch, with zeros behind them, are below the greatest number of requests
pub below-made : (rs : List Request) (ws : List ℕ) → length rs ≤ 64 → ws ≡ waves_of (map asked rs) ++ replicate (64 - length rs) 0 → (i : ℕ) → slice_index ws i < 64
below-made rs ws few made =
    let long = length-map rs asked in
    let some : 0 < 64 = omega arith in
    let first = λ (i : ℕ). waves-below 64 [] (map asked rs) (omega arith) i some in
    subst (λ (l : List ℕ). (i : ℕ) → slice_index l i < 64) (sym made) (index-append 64 (waves_of (map asked rs)) (replicate (64 - length rs) 0) first (λ i. zeros-below 64 (64 - length rs) i some))

-- what planning says, of the requests as they were lent
pub planned-made : (rs lent : List Request) (ws : List ℕ) → ws ≡ waves_of (map asked lent) ++ replicate (64 - length lent) 0 → lent ≡ rs → ws ≡ waves_of (map asked rs) ++ replicate (64 - length rs) 0
planned-made rs lent ws made is = subst (λ (l : List Request). ws ≡ waves_of (map asked l) ++ replicate (64 - length l) 0) is made

-- the waves of the requests, without the zeros
pub waves-made : (rs : List Request) (ws : List ℕ) → ws ≡ waves_of (map asked rs) ++ replicate (64 - length rs) 0 → take (length rs) ws ≡ waves_of (map asked rs)
waves-made rs ws made =
    let long : length (waves_of (map asked rs)) ≡ length rs = length-waves_of (map asked rs) ∙ length-map rs asked in
    ap (take (length rs)) made ∙ take_at (waves_of (map asked rs)) (replicate (64 - length rs) 0) (length rs) long

fresh : (rs : List Request) (k i : ℕ) → i ≤ length rs → ((a : ℕ) (d : Request) → a < i → (get_or rs a d).caller ≢ k) → request_by k (take i rs) ≡ None
fresh rs k zero le others = refl
fresh [] k (suc i) le others = refl
fresh (r ∷ rs) k (suc i) le others =
    ap (λ b. cond b (Some r.job) (request_by k (take i rs))) (ne_eqb r.caller k (others 0 r (omega arith)))
    ∙ fresh rs k i (omega arith) (λ a d lt. others (suc a) d (omega arith))

-- requests of distinct callers are asked for once
pub asked_once : (rs : List Request) → AllPairs (λ r s. r.caller ≢ s.caller) rs → (i k : ℕ) (job : Job) → slice_get rs i ≡ Some (request k job) → IsAskedAt rs i k job
asked_once rs distinct i k job there =
    let lt = slice_get_within rs i (request k job) there in
    record {
      there = there;
      first = fresh rs k i (omega arith) (λ a d below same. distinct a i d below lt (same ∙ ap caller_of (sym (get_or_from_slice_get rs i (request k job) d there))));
    }

batch_waves : (rs : List Request) (waves : List ℕ) (n : ℕ) → n ≡ length rs → take (length rs) waves ≡ waves_of (map asked rs) → take n waves ≡ waves_of (map asked rs)
batch_waves rs waves n many made = ap (λ k. take k waves) many ∙ made

-- all places of a batch
batch_places : (rs : List Request) (waves : List ℕ) (n count : ℕ) → n ≡ length rs → take (length rs) waves ≡ waves_of (map asked rs) → count ≡ wave_count rs
    → places_of_first (take n waves) count ≡ places_of_first (waves_of (map asked rs)) (count_of (waves_of (map asked rs)))
batch_places rs waves n count many made last = λ j. places_of_first (batch_waves rs waves n many made j) (last j)

-- a batch from its start to its end
pub batch_done : (bounds now : Bounds) (line mid new : List Entry) (rs : List Request) (callers waves : List ℕ) (n count : ℕ) (first os : List Outcome) → Whole line → now ≡ bounds → mid ≡ line → first ≡ map returned rs → n ≡ length rs
    → AllPairs (λ r s. r.caller ≢ s.caller) rs → take (length rs) callers ≡ map caller_of rs → take (length rs) waves ≡ waves_of (map asked rs) → count ≡ wave_count rs
    → (AreAskedBy rs callers → Serving now line rs [] mid first → Serving now line rs (places_of_first (take n waves) count) new os) → ServesInOrder bounds line rs new os
batch_done bounds now line mid new rs callers waves n count first os whole rooms mids firsts many distinct callers_are made last go =
    let ws = waves_of (map asked rs) in
    let at_start = subst (λ (z : List Entry × (List Outcome)). Serving now line rs [] z.0 z.1) (λ j. (sym mids j, sym firsts j)) (serving_start now line rs whole) in
    let at_end = go (record { callers_are = callers_are; each = asked_once rs distinct }) at_start in
    let s : Serving bounds line rs (places_of_first ws (count_of ws)) new os = subst (λ (z : Bounds × (List ℕ)). Serving z.0 line rs z.1 new os) (λ j. (rooms j, batch_places rs waves n count many made last j)) at_end in
    let paired = s.paired in
    let long : length ws ≡ length (zip rs os) = omega (arith, length-waves_of (map asked rs), length-map rs asked, length-zip rs os) in
    serving_end bounds line rs ws new os refl long s

job-back : (rs : List Request) (i : ℕ) (r : Request) (o : Outcome) → slice_get rs i ≡ Some r → slice_get (map returned rs) i ≡ Some o → handed_back r.job ≡ o
job-back [] i r o there back = absurd cc
job-back (q ∷ rs) zero r o there back =
    let same : q ≡ r = cc in
    let is : returned q ≡ o = cc in
    ap returned (sym same) ∙ is
job-back (q ∷ rs) (suc i) r o there back = job-back rs i r o there back

sure-call : (job : Job) (c : Call) → handed_back job ≡ Refused c → NeedsNoMemory job → TakesNoMemory (task_of c).word
sure-call (One d) c is none = let same : d ≡ c = cc in subst (λ (z : Call). TakesNoMemory (task_of z).word) same none
sure-call (Many calls) c is none = absurd none

never-sure : (job : Job) (calls : Vec Call Global) → handed_back job ≡ RefusedBlock calls → NeedsNoMemory job → ⊥
never-sure (One d) calls is none = cc
never-sure (Many own) calls is none = none

word-of-back : (job : Job) (c : Call) → handed_back job ≡ Refused c → word_of_job job ≡ (task_of c).word
word-of-back (One d) c is = let same : d ≡ c = cc in ap (λ (z : Call). (task_of z).word) same
word-of-back (Many calls) c is = absurd cc

pub tasks-of-back : (job : Job) → map task_of (calls_of job) ≡ tasks_back (handed_back job)
tasks-of-back (One call) = refl
tasks-of-back (Many calls) = refl

size-of-back : (job : Job) → size_back (handed_back job) ≡ block_size job
size-of-back (One call) = refl
size-of-back (Many calls) = refl

count-of-back : (job : Job) → length (calls_back (handed_back job)) ≡ length (calls_of job)
count-of-back (One call) = refl
count-of-back (Many calls) = refl

lawful-back : (job : Job) → IsLawfulJob job → IsLawfulBack (handed_back job)
lawful-back (One call) lawful = tt
lawful-back (Many calls) lawful = lawful

not-answered : (job : Job) → is_answered (handed_back job) ≡ false
not-answered (One call) = refl
not-answered (Many calls) = refl

each-pair : (rs : List Request) (os : List Outcome) → ((i : ℕ) (r : Request) (o : Outcome) → slice_get rs i ≡ Some r → slice_get os i ≡ Some o → NeedsNoMemory r.job → HasAnswer o) → AnswersAllSure rs os
each-pair [] os each = tt
each-pair (r ∷ rs) [] each = tt
each-pair (r ∷ rs) (o ∷ os) each = (each 0 r o refl refl, each-pair rs os (λ i q p at has. each (suc i) q p at has))

-- each call that takes no memory is answered
pub batch_sure : (rs : List Request) (waves : List ℕ) (n count : ℕ) (first os : List Outcome) → first ≡ map returned rs → n ≡ length rs → take (length rs) waves ≡ waves_of (map asked rs)
    → count ≡ wave_count rs → WereBack first os → AnswersSure os (places_of_first (take n waves) count) → AnswersAllSure rs os
batch_sure rs waves n count first os firsts many made last back sure = each-pair rs os (λ i r o there has. answers i r o there has)
  where
    waits : (i : ℕ) → i < length rs → IsOutside (places_of_first (take n waves) count) i → ⊥
    waits i lt out = each-placed (waves_of (map asked rs)) i (omega (arith, length-waves_of (map asked rs), length-map rs asked)) (subst (λ l. IsOutside l i) (batch_places rs waves n count many made last) out)

    was : (i : ℕ) (o : Outcome) → slice_get os i ≡ Some o → is_answered o ≡ false → slice_get (map returned rs) i ≡ Some o
    was i o has lacks = ap (λ (l : List Outcome). slice_get l i) (sym firsts) ∙ back i o has lacks

    answers : (i : ℕ) (r : Request) (o : Outcome) → slice_get rs i ≡ Some r → slice_get os i ≡ Some o → NeedsNoMemory r.job → HasAnswer o
    answers i r (Answered place reply) there has none = tt
    answers i r (AnsweredBlock place replies) there has none = tt
    answers i r (Refused c) there has none =
        waits i (slice_get_within rs i r there) (sure.waits i c has (sure-call r.job c (job-back rs i r (Refused c) there (was i (Refused c) has refl)) none))
    answers i r (RefusedBlock calls) there has none = never-sure r.job calls (job-back rs i r (RefusedBlock calls) there (was i (RefusedBlock calls) has refl)) none

abbrev Unanswered : List (Request × Outcome) → Type 0
Unanswered ps = AllByRecursion (λ p. is_answered p.1 ≡ false) ps

none-answered : (ps : List (Request × Outcome)) → Unanswered ps → answered ps ≡ []
none-answered [] all = refl
none-answered (p ∷ ps) all = ap (λ b. map (λ (q : Request × Outcome). q.0) (cond b (p ∷ filter (λ q. is_answered q.1) ps) (filter (λ q. is_answered q.1) ps))) all.0 ∙ none-answered ps all.1

none-returned : (rs : List Request) → Unanswered (zip rs (map returned rs))
none-returned [] = tt
none-returned (r ∷ rs) = (not-answered r.job, none-returned rs)

none-at : (ps : List (Request × Outcome)) (i : ℕ) → Unanswered ps → Unanswered (cons_option (slice_get ps i) [])
none-at [] i all = tt
none-at (p ∷ ps) zero all = (all.0, tt)
none-at (p ∷ ps) (suc i) all = none-at ps i all.1

none-places : (ps : List (Request × Outcome)) (places : List ℕ) → Unanswered ps → Unanswered (at_places ps places)
none-places ps [] all = tt
none-places ps (i ∷ places) all = by (slice_get ps i) (none-at ps i all) (none-places ps places all)
  where
    by : (o : Option (Request × Outcome)) → Unanswered (cons_option o []) → Unanswered (at_places ps places) → Unanswered (cons_option o (at_places ps places))
    by None one rest = rest
    by (Some p) one rest = (one.0, rest)

-- a batch of which each call came back
pub batch_back : (bounds : Bounds) (line mid : List Entry) (rs : List Request) (os : List Outcome) → Whole line → mid ≡ line → os ≡ map returned rs → ServesInOrder bounds line rs mid os
batch_back bounds line mid rs os whole mids firsts = subst (λ (z : List Entry × (List Outcome)). ServesInOrder bounds line rs z.0 z.1) (λ j. (sym mids j, sym firsts j)) from_start
  where
    ws : List ℕ
    ws = waves_of (map asked rs)

    ps : List (Request × Outcome)
    ps = zip rs (map returned rs)

    long : length ws ≡ length ps
    long = omega (arith, length-waves_of (map asked rs), length-map rs asked, length-zip rs (map returned rs), length-map rs returned)

    from_start : ServesInOrder bounds line rs line (map returned rs)
    from_start =
        let s = serving_start bounds line rs whole in
        record {
          fits = s.fits;
          paired = s.paired;
          added = [];
          grown = sym (append-nil line);
          ordered = sym (ap (flat_map calls_asked) (ap answered (sym (at_places-in_order ps ws long)) ∙ none-answered (at_places ps (places_of_first ws (count_of ws))) (none-places ps (places_of_first ws (count_of ws)) (none-returned rs))));
          whole = whole;
        }

inside : (rs : List Request) (i : ℕ) (o : Outcome) → slice_get (map returned rs) i ≡ Some o → i < length rs
inside rs i o there = let lt = slice_get_within (map returned rs) i o there in omega (arith, length-map rs returned)

-- the words of a batch are noted
pub batch_noted : (rs : List Request) (words : List Word) (os : List Outcome) → os ≡ map returned rs → take (length rs) words ≡ map word_asked rs → AreNoted words os
batch_noted rs words os is noted place c there =
    let back : slice_get (map returned rs) place ≡ Some (Refused c) = ap (λ (l : List Outcome). slice_get l place) (sym is) ∙ there in
    let lt = inside rs place (Refused c) back in
    let found = place_in rs place lt in
    let same = job-back rs place found.0 (Refused c) found.1 back in
    sym (get_or-take (length rs) words place SetInts lt) ∙ ap (λ (l : List Word). get_or l place SetInts) noted ∙ get_or-map word_asked rs place found.0 SetInts lt
    ∙ ap word_asked (get_or_from_slice_get rs place found.0 found.0 found.1) ∙ word-of-back found.0.job c same

-- each block of a batch is lawful
pub batch_lawful : (rs : List Request) (os : List Outcome) → AllByRecursion (λ r. IsLawfulJob r.job) rs → os ≡ map returned rs → AreLawful os
batch_lawful rs os all is = subst AreLawful (sym is) (each rs all)
  where
    each : (qs : List Request) → AllByRecursion (λ r. IsLawfulJob r.job) qs → AreLawful (map returned qs)
    each [] lawful place o there = absurd cc
    each (q ∷ qs) lawful zero o there = let same : returned q ≡ o = cc in subst IsLawfulBack same (lawful-back q.job lawful.0)
    each (q ∷ qs) lawful (suc place) o there = each qs lawful.1 place o there

-- all calls of a batch are back at the start
pub batch_calls : (rs : List Request) (os : List Outcome) → os ≡ map returned rs → count_back os ≡ sum_by (λ r. length (calls_of r.job)) rs
batch_calls rs os is = ap count_back is ∙ each rs
  where
    each : (qs : List Request) → count_back (map returned qs) ≡ sum_by (λ (r : Request). length (calls_of r.job)) qs
    each [] = refl
    each (q ∷ qs) =
        let rest = each qs in
        let here = count-of-back q.job in
        let all = sum_by-cons (λ (o : Outcome). length (calls_back o)) (returned q) (map returned qs) in
        let every = sum_by-cons (λ (r : Request). length (calls_of r.job)) q qs in
        omega (arith, rest, here, all, every)

returned-at : (rs : List Request) (i : ℕ) (o : Outcome) → slice_get (map returned rs) i ≡ Some o → slice_get (map asked rs) i ≡ Some (tasks_back o)
returned-at [] i o there = absurd cc
returned-at (r ∷ rs) zero o there = let same : returned r ≡ o = cc in ap (λ (ts : List Task). Some ts) (tasks-of-back r.job ∙ ap tasks_back same)
returned-at (r ∷ rs) (suc i) o there = returned-at rs i o there

-- at the start the jobs of a wave are apart
pub batch_apart : (rs : List Request) (waves : List ℕ) (os : List Outcome) → os ≡ map returned rs → take (length rs) waves ≡ waves_of (map asked rs) → AreApart waves os
batch_apart rs waves os is made i j lt same c d at then =
    let first : slice_get (map returned rs) i ≡ Some c = ap (λ (l : List Outcome). slice_get l i) (sym is) ∙ at in
    let second : slice_get (map returned rs) j ≡ Some d = ap (λ (l : List Outcome). slice_get l j) (sym is) ∙ then in
    waves-apart (map asked rs) i j (tasks_back c) (tasks_back d) lt (returned-at rs i c first) (returned-at rs j d second)
    (ap (λ (vs : List ℕ). slice_index vs i) (sym made) ∙ get_or-take (length rs) waves i 0 (inside rs i c first) ∙ same
    ∙ sym (get_or-take (length rs) waves j 0 (inside rs j d second)) ∙ ap (λ (vs : List ℕ). slice_index vs j) made)

-- the sizes of its blocks
batch_sizes : (rs : List Request) → sizes_back (map returned rs) ≡ map size_asked rs
batch_sizes [] = refl
batch_sizes (r ∷ rs) = λ j. size-of-back r.job j ∷ batch_sizes rs j

-- what a batch may run
pub batch_bound : (rs : List Request) (waves : List ℕ) (words : List Word) (first : List Outcome) (n count : ℕ) → first ≡ map returned rs → n ≡ length rs → take (length rs) waves ≡ waves_of (map asked rs)
    → take (length rs) words ≡ map word_asked rs → count ≡ wave_count rs → kernels_below (take n waves) (take n words) (sizes_back first) count ≡ kernel_bound rs
batch_bound rs waves words first n count firsts many made noted last =
    let words_are : take n words ≡ map word_asked rs = ap (λ k. take k words) many ∙ noted in
    let sizes_are : sizes_back first ≡ map size_asked rs = ap sizes_back firsts ∙ batch_sizes rs in
    λ j. kernels_below (batch_waves rs waves n many made j) (words_are j) (sizes_are j) (last j)

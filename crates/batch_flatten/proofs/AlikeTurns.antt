-- The turns of requests of one wave in their order: `Turns` says how far they are, and `turns-start`, `turns-next` and `turns-end` lead
-- from the first to behind the last. Where what they make was made before it is `UnderWay` and its lemmas.
use Rattle.std.proofs.Common.{◌≡◌, ◌≢◌, ℕ, zero, suc, ◌+◌, ◌<◌, ◌≤◌, false, List, [], ◌∷◌, ◌++◌, length, map, Option, Some, Ok, refl, sym, ap, ◌∙◌, subst, arith, append-nil, append_assoc, get_or, length-append, set, slice_get, slice_index}
use Rattle.std.specs.List.{AllByRecursion, AllPairs, range_with_len}
use Rattle.std.proofs.lemmas.List.{length-map, set_at, take_all}
use Rattle.std.proofs.lemmas.Option.{get_or_from_slice_get}
use Rattle.std.proofs.lemmas.Slice.Zip.{length-zip}
use Rattle.vector_memory.specs.declared.bounds.Bounds.{Bounds}
use Rattle.vector_memory.specs.States.{State}
use Rattle.cvl_text.specs.declared.call.Call.{Call}
use Rattle.cvl_text.specs.Answers.{Answer, answer_of}
use Rattle.cvl_text.specs.Tasks.{Task}
use Rattle.cvl_calls.specs.Outcomes.{Effect}
use Rattle.call_history.specs.declared.entry.Entry.{Entry}
use Rattle.call_history.specs.declared.request.Job.{Job}
use Rattle.call_history.specs.declared.request.Job.TheVariants.{One, Many}
use Rattle.call_history.specs.declared.request.Request.{Request}
use Rattle.call_history.specs.declared.request.Outcome.{Outcome}
use Rattle.call_history.specs.declared.request.Outcome.TheVariants.{Answered, Refused, AnsweredBlock, RefusedBlock}
use Rattle.call_history.specs.Blocks.{Whole, block_entries}
use Rattle.call_history.specs.Books.{BookState, memory_of}
use Rattle.call_history.specs.Callers.{caller_limit}
use Rattle.call_history.specs.Fits.{returned}
use Rattle.call_history.specs.History.{replay, replies_from}
use Rattle.batch_flatten.specs.Alike.{AllApart, AreMadeOf, work_asked}
use Rattle.batch_flatten.specs.Waves.{asked, count_of, jobs_clash, waves_of}
use Rattle.batch_flatten.specs.Places.{IsOutside, places_of_first}
use Rattle.batch_flatten.specs.Batches.{RunsCalls, RunsJob, ServesInOrder, StaysWith, tasks_back}
use Rattle.batch_flatten.specs.Counts.{wave_count}
use Rattle.batch_flatten.specs.Serving.{AreAskedBy, RunsBack, Serving, TurnsMemory, caller_of}
use Rattle.batch_flatten.proofs.AlikeLemmas.{one-wave, some-wave}
use Rattle.batch_flatten.proofs.AloneLemmas.{runs-back}
use Rattle.batch_flatten.proofs.BatchLemmas.{asked_once, tasks-of-back}
use Rattle.batch_flatten.proofs.PlaceLemmas.{range-push}
use Rattle.batch_flatten.proofs.ServingLemmas.{caller_here, serving_end, serving_start, serving_turn, turn-memory}
use Rattle.batch_flatten.proofs.TurnLemmas.{kept_work}
use Rattle.batch_flatten.proofs.WaveLemmas.{length-waves_of}

runs-calls : (a b new : BookState) (k : ℕ) (calls : List Call) (place : ℕ) (replies : List Answer) → b.history ≡ a.history → b.bounds ≡ a.bounds → RunsCalls b new k calls place replies → RunsCalls a new k calls place replies
runs-calls a b new k calls place replies same rooms runs =
    subst (λ (z : Bounds × (List Entry)). (new.bounds ≡ z.0) × (new.history ≡ z.1 ++ block_entries z.1 k calls) × (place ≡ length z.1) × (replies ≡ replies_from (replay z.0 z.1) (block_entries z.1 k calls)))
    (λ i. (rooms i, same i)) runs

stays-with : (a b new : BookState) (was o : Outcome) → b.history ≡ a.history → b.bounds ≡ a.bounds → StaysWith b new was o → StaysWith a new was o
stays-with a b new was o same rooms stays = (stays.0 ∙ rooms, stays.1 ∙ same, stays.2)

-- a job that ran on a book as it stands ran on the book before, which shows the same
pub runs-on : (a b new : BookState) (k : ℕ) (job : Job) (o : Outcome) → b.history ≡ a.history → b.bounds ≡ a.bounds → RunsJob b new k job o → RunsJob a new k job o
runs-on a b new k (One c) (Answered place reply) same rooms runs = runs-calls a b new k (c ∷ []) place (answer_of reply ∷ []) same rooms runs
runs-on a b new k (One c) (Refused back) same rooms runs = stays-with a b new (Refused c) (Refused back) same rooms runs
runs-on a b new k (One c) (AnsweredBlock place replies) same rooms runs = stays-with a b new (Refused c) (AnsweredBlock place replies) same rooms runs
runs-on a b new k (One c) (RefusedBlock back) same rooms runs = stays-with a b new (Refused c) (RefusedBlock back) same rooms runs
runs-on a b new k (Many cs) (Answered place reply) same rooms runs = stays-with a b new (RefusedBlock cs) (Answered place reply) same rooms runs
runs-on a b new k (Many cs) (Refused back) same rooms runs = stays-with a b new (RefusedBlock cs) (Refused back) same rooms runs
runs-on a b new k (Many cs) (AnsweredBlock place replies) same rooms runs = runs-calls a b new k cs.items place (map answer_of replies.items) same rooms runs
runs-on a b new k (Many cs) (RefusedBlock back) same rooms runs = stays-with a b new (RefusedBlock cs) (RefusedBlock back) same rooms runs

-- The first requests, `done`, had their turns, and `rest` are to come. Of the list as it is now the first may be anything.
pub record Turns (bounds : Bounds) (line : List Entry) (requests now : List Request) (book : BookState) (outcomes : List Outcome) : Type 0 where
  pub done : List Request
  pub rest : List Request
  pub changed : List Request
  pub split : requests ≡ done ++ rest
  pub held : now ≡ changed ++ rest
  pub many : length done ≡ length outcomes
  pub kept : length changed ≡ length outcomes
  pub lawful : AllByRecursion (λ r. r.caller < caller_limit) rest
  pub serves : Serving bounds line requests (range_with_len 0 (length outcomes)) book.history (outcomes ++ map returned rest)
  pub bounds_are : book.bounds ≡ bounds
  pub space : length rest ≤ book.spaces

pub turns-start : (book : BookState) (requests : List Request) (outcomes : List Outcome) → Whole book.history → outcomes ≡ [] → AllByRecursion (λ r. r.caller < caller_limit) requests → length requests ≤ book.spaces
    → (t : Turns book.bounds book.history requests requests book outcomes) × (t.rest ≡ requests)
turns-start book requests outcomes whole none lawful space =
    subst (λ (os : List Outcome). (t : Turns book.bounds book.history requests requests book os) × (t.rest ≡ requests)) (sym none) (
      record {
        done = [];
        rest = requests;
        changed = [];
        split = refl;
        held = refl;
        many = refl;
        kept = refl;
        lawful = lawful;
        serves = serving_start book.bounds book.history requests whole;
        bounds_are = refl;
        space = space;
      },
      refl,
    )

at-front : {X : Type 0} (xs : List X) (x : X) (ys : List X) (k : ℕ) → k ≡ length xs → slice_get (xs ++ x ∷ ys) k ≡ Some x
at-front [] x ys zero long = refl
at-front [] x ys (suc k) long = absurd (omega arith)
at-front (z ∷ xs) x ys zero long = absurd (omega arith)
at-front (z ∷ xs) x ys (suc k) long = at-front xs x ys k (omega arith)

below-outside : (a n p : ℕ) → a + n ≤ p → IsOutside (range_with_len a n) p
below-outside a zero p le = tt
below-outside a (suc n) p le = ((λ same. absurd (omega arith)), below-outside (a + 1) n p (omega arith))

-- the next request stands in the list as it is now
pub stands-now : (bounds : Bounds) (line : List Entry) (requests now : List Request) (book : BookState) (outcomes : List Outcome) (t : Turns bounds line requests now book outcomes) (r : Request) (rs : List Request)
    (place : ℕ) (d : Request) → t.rest ≡ r ∷ rs → place ≡ length outcomes → get_or now place d ≡ r
stands-now bounds line requests now book outcomes t r rs place d are here =
    get_or_from_slice_get now place r d
    (ap (λ l. slice_get l place) (t.held ∙ ap (λ l. t.changed ++ l) are) ∙ at-front t.changed r rs place (here ∙ sym t.kept))

by-callers : (rs : List Request) → AllPairs (λ r s. r.caller ≢ s.caller) rs → AreAskedBy rs (map caller_of rs)
by-callers rs distinct = record { callers_are = take_all (length rs) (map caller_of rs) (omega (arith, length-map rs caller_of)); each = asked_once rs distinct }

works-stay : (old new : State) (r : Request) (rs : List Request) → TurnsMemory old new (returned r) → AllByRecursion (λ s. jobs_clash (asked r) (asked s) ≡ false) rs → map (work_asked new) rs ≡ map (work_asked old) rs
works-stay old new r [] turned apart = refl
works-stay old new r (s ∷ ss) turned apart =
    let one = kept_work old new (returned r) (Some (returned s)) turned (λ o is. clash o is) in
    cc (one, works-stay old new r ss turned apart.1)
  where
    same : (a b : Outcome) → ◌≡◌ {A = Option Outcome} (Some a) (Some b) → a ≡ b
    same a b e = cc

    clash : (o : Outcome) → ◌≡◌ {A = Option Outcome} (Some (returned s)) (Some o) → jobs_clash (tasks_back (returned r)) (tasks_back o) ≡ false
    clash o is = subst (λ (z : Outcome). jobs_clash (tasks_back (returned r)) (tasks_back z) ≡ false) (same (returned s) o is)
        (subst (λ (z : List Task × (List Task)). jobs_clash z.0 z.1 ≡ false) (λ i. (tasks-of-back r.job i, tasks-of-back s.job i)) apart.0)

-- the turn of the next request
pub turns-next : (bounds : Bounds) (line : List Entry) (requests now later : List Request) (old new : BookState) (outcomes after : List Outcome) (o : Outcome) (changed r : Request) (rs : List Request) → AllPairs (λ r s. r.caller ≢ s.caller) requests
    → (t : Turns bounds line requests now old outcomes) → t.rest ≡ r ∷ rs → RunsJob old new r.caller r.job o → old.spaces ≤ new.spaces + 1
    → later ≡ set now (length outcomes) changed → after ≡ outcomes ++ o ∷ [] → (v : Turns bounds line requests later new after) × (v.rest ≡ rs)
turns-next bounds line requests now later old new outcomes after o changed r rs distinct t are runs spaces written grown =
    subst (λ (os : List Outcome). (v : Turns bounds line requests later new os) × (v.rest ≡ rs)) (sym grown) (
      record {
        done = t.done ++ r ∷ [];
        rest = rs;
        changed = t.changed ++ changed ∷ [];
        split = split ∙ sym (append_assoc t.done (r ∷ []) rs);
        held = written ∙ ap (λ l. set l k changed) (t.held ∙ ap (λ l. t.changed ++ l) are) ∙ set_at t.changed r rs changed k (t.kept) ∙ sym (append_assoc t.changed (changed ∷ []) rs);
        many = omega (arith, length-append t.done (r ∷ []), length-append outcomes (o ∷ []), t.many);
        kept = omega (arith, length-append t.changed (changed ∷ []), length-append outcomes (o ∷ []), t.kept);
        lawful = laws.1;
        serves = turned-serving;
        bounds_are = rooms ∙ t.bounds_are;
        space = let fewer : length t.rest ≡ suc (length rs) = ap length are in let room = t.space in omega arith;
      },
      refl,
    )
  where
    k : ℕ
    k = length outcomes

    split : requests ≡ t.done ++ r ∷ rs
    split = t.split ∙ ap (λ l. t.done ++ l) are

    laws : (r.caller < caller_limit) × AllByRecursion (λ q. q.caller < caller_limit) rs
    laws = subst (AllByRecursion (λ (q : Request). q.caller < caller_limit)) are t.lawful

    back : RunsBack old new r.caller (returned r) o
    back = runs-back old new r.caller r.job o runs

    all : List Outcome
    all = outcomes ++ map returned (r ∷ rs)

    there : slice_get requests k ≡ Some r
    there = ap (λ l. slice_get l k) split ∙ at-front t.done r rs k (sym t.many)

    within : k < length requests
    within = omega (arith, ap length split, length-append t.done (r ∷ rs), t.many)

    here : slice_index (map caller_of requests) k ≡ r.caller
    here = caller_here requests (map caller_of requests) k r (by-callers requests distinct) within there

    serving : Serving bounds line requests (range_with_len 0 k) old.history all
    serving = subst (λ l. Serving bounds line requests (range_with_len 0 k) old.history (outcomes ++ map returned l)) are t.serves

    turned-serving : Serving bounds line requests (range_with_len 0 (length (outcomes ++ o ∷ []))) new.history ((outcomes ++ o ∷ []) ++ map returned rs)
    turned-serving =
        let count : suc k ≡ length (outcomes ++ o ∷ []) = omega (arith, length-append outcomes (o ∷ [])) in
        let from_zero : 0 + k ≡ k = omega arith in
        let places : range_with_len 0 k ++ k ∷ [] ≡ range_with_len 0 (length (outcomes ++ o ∷ [])) = ap (λ (n : ℕ). range_with_len 0 k ++ n ∷ []) (sym from_zero) ∙ sym (range-push 0 k) ∙ ap (range_with_len 0) count in
        let set_is : set all k o ≡ (outcomes ++ o ∷ []) ++ map returned rs = set_at outcomes (returned r) (map returned rs) o k refl ∙ sym (append_assoc outcomes (o ∷ []) (map returned rs)) in
        subst (λ (z : List ℕ × (List Outcome)). Serving bounds line requests z.0 new.history z.1) (λ i. (places i, set_is i))
        (serving_turn bounds line requests (map caller_of requests) (range_with_len 0 k) k old new all (returned r) o t.bounds_are (omega (arith, length-append outcomes (map returned (r ∷ rs))))
        (by-callers requests distinct) (below-outside 0 k k (omega arith)) (at-front outcomes (returned r) (map returned rs) k refl)
        (subst (λ n. RunsBack old new n (returned r) o) (sym here) back) serving)

    rooms : new.bounds ≡ old.bounds
    rooms = by r.job o runs
      where
        by : (job : Job) (out : Outcome) → RunsJob old new r.caller job out → new.bounds ≡ old.bounds
        by (One c) (Answered place reply) ran = ran.0
        by (One c) (Refused b) ran = ran.0
        by (One c) (AnsweredBlock place replies) ran = ran.0
        by (One c) (RefusedBlock b) ran = ran.0
        by (Many cs) (Answered place reply) ran = ran.0
        by (Many cs) (Refused b) ran = ran.0
        by (Many cs) (AnsweredBlock place replies) ran = ran.0
        by (Many cs) (RefusedBlock b) ran = ran.0

-- behind the last
pub turns-end : (bounds : Bounds) (line : List Entry) (requests now : List Request) (book : BookState) (outcomes : List Outcome) (t : Turns bounds line requests now book outcomes) → t.rest ≡ []
    → Serving bounds line requests (range_with_len 0 (length requests)) book.history outcomes
turns-end bounds line requests now book outcomes t none =
    let all : requests ≡ t.done = t.split ∙ ap (λ l. t.done ++ l) none ∙ append-nil t.done in
    let count : length outcomes ≡ length requests = sym t.many ∙ sym (ap length all) in
    let outs : outcomes ++ map returned t.rest ≡ outcomes = ap (λ l. outcomes ++ map returned l) none ∙ append-nil outcomes in
    subst (λ (z : ℕ × (List Outcome)). Serving bounds line requests (range_with_len 0 z.0) book.history z.1) (λ i. (count i, outs i)) t.serves

-- all of them but those that are to come are as many as the outcomes
pub turns-count : (bounds : Bounds) (line : List Entry) (requests now : List Request) (book : BookState) (outcomes : List Outcome) (t : Turns bounds line requests now book outcomes) → length outcomes + length t.rest ≡ length requests
turns-count bounds line requests now book outcomes t = omega (arith, ap length t.split, length-append t.done t.rest, t.many)

-- where fewer outcomes are there than requests, one is to come
pub record Next (rest : List Request) : Type 0 where
  pub request : Request
  pub others : List Request
  pub are : rest ≡ request ∷ others

pub some-next : (rest : List Request) → 0 < length rest → Next rest
some-next [] some = absurd (omega arith)
some-next (r ∷ rs) some = record { request = r; others = rs; are = refl }

pub none-next : (rest : List Request) → length rest ≡ 0 → rest ≡ []
none-next [] none = refl
none-next (r ∷ rs) none = absurd (omega arith)

-- the first effect is that of the first request that is to come
pub record First (m : State) (effect : Effect) (effects : List Effect) (rest : List Request) : Type 0 where
  pub request : Request
  pub others : List Request
  pub are : rest ≡ request ∷ others
  pub work : work_asked m request ≡ Ok effect
  pub made : AreMadeOf m others effects

pub first-made : (m : State) (effect : Effect) (effects : List Effect) (rest : List Request) → AreMadeOf m rest (effect ∷ effects) → First m effect effects rest
first-made m effect effects [] made = absurd cc
first-made m effect effects (r ∷ rs) made = record { request = r; others = rs; are = refl; work = cc; made = cc }

-- turns of requests of which this was made before: no request that is to come reads the target of another before it
pub record UnderWay (bounds : Bounds) (line : List Entry) (requests now : List Request) (effects : List Effect) (book : BookState) (outcomes : List Outcome) : Type 0 where
  pub turns : Turns bounds line requests now book outcomes
  pub apart : AllApart turns.rest
  pub made : AreMadeOf (memory_of book) turns.rest effects

pub under-way-start : (book : BookState) (requests : List Request) (effects : List Effect) (outcomes : List Outcome) → Whole book.history → outcomes ≡ [] → AllApart requests → AllByRecursion (λ r. r.caller < caller_limit) requests
    → AreMadeOf (memory_of book) requests effects → length requests ≤ book.spaces → UnderWay book.bounds book.history requests requests effects book outcomes
under-way-start book requests effects outcomes whole none apart lawful made space =
    let start = turns-start book requests outcomes whole none lawful space in
    record { turns = start.0; apart = subst AllApart (sym start.1) apart; made = subst (λ l. AreMadeOf (memory_of book) l effects) (sym start.1) made }

pub under-way-next : (bounds : Bounds) (line : List Entry) (requests now later : List Request) (effect : Effect) (effects : List Effect) (old new : BookState) (outcomes after : List Outcome) (o : Outcome) (changed : Request) → AllPairs (λ r s. r.caller ≢ s.caller) requests
    → (u : UnderWay bounds line requests now (effect ∷ effects) old outcomes) (f : First (memory_of old) effect effects u.turns.rest) → RunsJob old new f.request.caller f.request.job o → old.spaces ≤ new.spaces + 1
    → later ≡ set now (length outcomes) changed → after ≡ outcomes ++ o ∷ [] → UnderWay bounds line requests later effects new after
under-way-next bounds line requests now later effect effects old new outcomes after o changed distinct u f runs spaces written grown =
    let r = f.request in
    let rs = f.others in
    let next = turns-next bounds line requests now later old new outcomes after o changed r rs distinct u.turns f.are runs spaces written grown in
    let both = subst AllApart f.are u.apart in
    let turned = turn-memory old new r.caller (returned r) o (runs-back old new r.caller r.job o runs) in
    record {
      turns = next.0;
      apart = subst AllApart (sym next.1) both.1;
      made = subst (λ l. AreMadeOf (memory_of new) l effects) (sym next.1) (f.made ∙ sym (works-stay (memory_of old) (memory_of new) r rs turned both.0));
    }

none-left : (m : State) (rest : List Request) → AreMadeOf m rest [] → rest ≡ []
none-left m [] made = refl
none-left m (r ∷ rs) made = absurd cc

pub under-way-end : (bounds : Bounds) (line : List Entry) (requests now : List Request) (effects : List Effect) (book : BookState) (outcomes : List Outcome) → effects ≡ [] → UnderWay bounds line requests now effects book outcomes
    → Serving bounds line requests (range_with_len 0 (length requests)) book.history outcomes
under-way-end bounds line requests now effects book outcomes none u =
    turns-end bounds line requests now book outcomes u.turns (none-left (memory_of book) u.turns.rest (subst (AreMadeOf (memory_of book) u.turns.rest) none u.made))

-- requests of one wave that were all served were served in the order of their waves
pub one-wave-served : (bounds : Bounds) (line mid : List Entry) (requests : List Request) (outcomes : List Outcome) → 0 < length requests → wave_count requests ≤ 1 → Serving bounds line requests (range_with_len 0 (length requests)) mid outcomes → ServesInOrder bounds line requests mid outcomes
one-wave-served bounds line mid requests outcomes some few s =
    let ws = waves_of (map asked requests) in
    let long : length ws ≡ length requests = length-waves_of (map asked requests) ∙ length-map requests asked in
    let one : count_of ws ≡ 1 = some-wave ws (omega (arith, long)) few in
    let places = ap (λ n. places_of_first ws n) one ∙ one-wave ws few ∙ ap (range_with_len 0) long in
    let paired = s.paired in
    serving_end bounds line requests ws mid outcomes refl (omega (arith, long, length-zip requests outcomes))
    (subst (λ (l : List ℕ). Serving bounds line requests l mid outcomes) (sym places) s)

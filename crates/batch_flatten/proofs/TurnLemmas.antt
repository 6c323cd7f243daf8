-- A turn in a wave: the work with which a call takes it is its own (`ready-work`), what is noted of the later calls stays so
-- (`turn-keeps`), those of one word stay open together (`together-next`), and the kernels that ran are counted (`next-counted`).
use Rattle.std.proofs.Common.{◌≡◌, ◌≢◌, ⊎_elim, inl, inr, ℕ, zero, suc, ◌+◌, ◌<◌, ◌≤◌, Bool, true, false, List, [], ◌∷◌, length, take, Option, Some, None, Result, refl, sym, ap, ◌∙◌, subst, arith, get_or, replicate, slice_get, slice_index}
use Rattle.std.specs.List.{AllPairs}
use Rattle.scan_kernels.specs.Metering.{Metered}
use Rattle.vector_memory.specs.States.{State}
use Rattle.cvl_text.specs.declared.call.Call.{Call}
use Rattle.cvl_text.specs.declared.fault.Fault.{Fault}
use Rattle.cvl_text.specs.declared.word.Word.{Word}
use Rattle.cvl_text.specs.Tasks.{Task, task_of}
use Rattle.cvl_calls.specs.Outcomes.{Effect}
use Rattle.cvl_calls.specs.Runs.{runs_kernel}
use Rattle.cvl_calls.specs.Steps.{work_on}
use Rattle.call_history.specs.declared.request.Outcome.{Outcome}
use Rattle.call_history.specs.declared.request.Outcome.TheVariants.{Answered, Refused, AnsweredBlock, RefusedBlock}
use Rattle.call_history.specs.declared.work.Work.{Work}
use Rattle.batch_flatten.specs.declared.turn.Turn.{Turn}
use Rattle.batch_flatten.specs.declared.turn.Turn.TheVariants.{Open, Single, Faulty, Joined}
use Rattle.batch_flatten.specs.Waves.{jobs_clash}
use Rattle.batch_flatten.specs.Batches.{calls_back, is_answered, tasks_back}
use Rattle.batch_flatten.specs.Counts.{CountsJoin, CountsTurn, RisesBy, different_kernels, kernels_of, single_of, size_at, size_back}
use Rattle.batch_flatten.specs.Joining.{AreOpenTogether, ArePrepared, AreWords, ClosesOnly, HasWork, IsClosed, IsPrepared, IsReadyWork, work_at, work_back, word_at}
use Rattle.batch_flatten.specs.Serving.{AreLawful, DoNotClash, IsLawfulBack, TurnsMemory, WereBack}
use Rattle.batch_flatten.proofs.CountLemmas.{rises-both, rises-more, rises-one, rises-same}
use Rattle.batch_flatten.proofs.DifferentLemmas.{IsNew, kernels-le, kernels-new, word_cases}
use Rattle.batch_flatten.proofs.Turning.{after-stays}

-- a call's own work is ready
pub ready-work : (m : State) (words : List Word) (outcomes : List Outcome) (places : List ℕ) (b : ℕ) (turn : Turn) (work : Option Work) → AreWords words outcomes places → b < length places
    → HasWork (runs_kernel (word_at words b)) (work_at m outcomes places b) turn work → IsReadyWork m (slice_get outcomes (slice_index places b)) work
ready-work m words outcomes places b turn work are lt has = by (slice_get outcomes (slice_index places b)) turn work (are b) has
  where
    by : (o : Option Outcome) (t : Turn) (w : Option Work) → ((c : Call) → b < length places → o ≡ Some (Refused c) → word_at words b ≡ (task_of c).word) → HasWork (runs_kernel (word_at words b)) (work_back m o) t w → IsReadyWork m o w
    by None t w its has = tt
    by (Some (Answered place reply)) t w its has = tt
    by (Some (AnsweredBlock place replies)) t w its has = tt
    by (Some (RefusedBlock calls)) t w its has = tt
    by (Some (Refused c)) t None its has = tt
    by (Some (Refused c)) Open (Some w) its has = absurd has
    by (Some (Refused c)) Single (Some w) its has = absurd has
    by (Some (Refused c)) (Faulty f) (Some w) its has = (ap runs_kernel (sym (its c lt refl)) ∙ has.0, has.1)
    by (Some (Refused c)) Joined (Some w) its has = (ap runs_kernel (sym (its c lt refl)) ∙ has.0, has.1)

-- the work that is noted at a position is there for its turn
pub has-work : (m seen : State) (os lent : List Outcome) (places : List ℕ) (words : List Word) (turns : List Turn) (works : List (Option Work)) (position : ℕ) (turn : Turn) (work : Option Work) → seen ≡ m → lent ≡ os
    → position < length places → slice_get turns position ≡ Some turn → ArePrepared seen lent places words turns works position
    → ((kernel : Bool) (said : Result Effect Fault) → IsPrepared kernel said (Some turn) (slice_get works position) → HasWork kernel said turn work)
    → HasWork (runs_kernel (word_at words position)) (work_at m os places position) turn work
has-work m seen os lent places words turns works position turn work same are lt is prepared taken =
    subst (λ (z : State × (List Outcome)). HasWork (runs_kernel (word_at words position)) (work_at z.0 z.1 places position) turn work) (λ i. (same i, are i))
    (taken (runs_kernel (word_at words position)) (work_at seen lent places position)
    (subst (λ t. IsPrepared (runs_kernel (word_at words position)) (work_at seen lent places position) t (slice_get works position)) is (prepared position (omega arith) lt)))

pub kept_work : (old new : State) (was : Outcome) (later : Option Outcome) → TurnsMemory old new was → ((o : Outcome) → later ≡ Some o → jobs_clash (tasks_back was) (tasks_back o) ≡ false) → work_back new later ≡ work_back old later
kept_work old new was None turned apart = refl
kept_work old new was (Some (Answered place reply)) turned apart = refl
kept_work old new was (Some (AnsweredBlock place replies)) turned apart = refl
kept_work old new was (Some (RefusedBlock calls)) turned apart = refl
kept_work old new was (Some (Refused c)) (inl stays) apart = ap (λ (m : State). work_on m (task_of c)) stays
kept_work old new was (Some (Refused c)) (inr steps) apart = ap (λ (m : State). work_on m (task_of c)) steps ∙ after-stays old (calls_back was) (task_of c) (apart (Refused c) refl)

-- the turn at a position leaves what is noted of the later ones
pub turn-keeps : (old new : State) (os after : List Outcome) (places : List ℕ) (words : List Word) (turns : List Turn) (works left : List (Option Work)) (position : ℕ) (was : Outcome) → AllPairs (λ p q. p < q) places → AllPairs (DoNotClash os) places
    → position < length places → slice_get os (slice_index places position) ≡ Some was → TurnsMemory old new was → ((p : ℕ) → p ≢ slice_index places position → slice_get after p ≡ slice_get os p)
    → ((b : ℕ) → b ≢ position → slice_get left b ≡ slice_get works b) → ArePrepared old os places words turns works position → ArePrepared new after places words turns left (position + 1)
turn-keeps old new os after places words turns works left position was rising apart lt there turned others slots prepared b low high =
    let later : slice_index places position < slice_index places b = rising position b 0 (omega arith) high in
    let same : slice_get after (slice_index places b) ≡ slice_get os (slice_index places b) = others (slice_index places b) (λ e. absurd (omega arith)) in
    let said : work_at new after places b ≡ work_at old os places b =
    ap (work_back new) same
    ∙ kept_work old new was (slice_get os (slice_index places b)) turned (λ o then. apart position b 0 (omega arith) high was o there then) in
    let slot : slice_get left b ≡ slice_get works b = slots b (λ e. absurd (omega arith)) in
    subst (λ (z : Result Effect Fault × (Option (Option Work))). IsPrepared (runs_kernel (word_at words b)) z.0 (slice_get turns b) z.1) (λ i. (sym said i, sym slot i)) (prepared b (omega arith) high)

-- behind a position that was joined with the later ones of its word, or not
pub together-next : (words : List Word) (old new : List Turn) (position : ℕ) → position < length words → ClosesOnly words (word_at words position) old new
    → (slice_get old position ≡ Some Open → runs_kernel (word_at words position) ≡ true → IsClosed words (word_at words position) new (position + 1) (length words))
    → AreOpenTogether words old position → AreOpenTogether words new (position + 1)
together-next words old new position here closes closed together a b within low high is_open kernel same =
    let was = closes.opens b is_open in
    let both = together a b within (omega arith) high was kernel same in
    ⊎_elim
    (λ its.
    let like : word_at words position ≡ word_at words b = sym its ∙ same in
    let first = together position b here (omega arith) high was kernel like in
    absurd (closed first.1 (ap runs_kernel like ∙ kernel) b low high (sym like) is_open))
    (λ other.
    let up = both.0 in
    let apart : a ≢ position = λ e. other (ap (word_at words) e) in
    (omega arith, closes.others a other ∙ both.1))
    (word_cases (word_at words a) (word_at words position))

-- a word that is open at its turn is new
pub open-new : (words : List Word) (turns : List Turn) (position : ℕ) → position < length words → AreOpenTogether words turns position → slice_get turns position ≡ Some Open → runs_kernel (word_at words position) ≡ true
    → IsNew (word_at words position) (take position words)
open-new words turns position lt together is_open kernel =
    none words position (omega arith) (λ a below same. let le = (together a position (omega arith) (omega arith) lt is_open kernel same).0 in absurd (omega arith))
  where
    none : (ws : List Word) (n : ℕ) → n ≤ length ws → ((a : ℕ) → a < n → word_at ws a ≢ word_at words position) → IsNew (word_at words position) (take n ws)
    none ws zero le apart = tt
    none [] (suc n) le apart = absurd (omega arith)
    none (w ∷ ws) (suc n) le apart = (apart 0 (omega arith), none ws n (omega arith) (λ a lt. apart (suc a) (omega arith)))

-- how many kernels a call runs by itself
abbrev by_itself : Bool → Option Work → ℕ
by_itself kernel None = kernels_of kernel
by_itself kernel (Some work) = 0

-- how many calls it runs as a block
abbrev as_block : Option Outcome → ℕ
as_block None = 0
as_block (Some o) = size_back o

turn-rises : (o : Option Outcome) (work : Option Work) (kernel : Bool) (old new : Metered) → ((c : Call) → o ≡ Some (Refused c) → kernel ≡ runs_kernel (task_of c).word) → CountsTurn o work old new → RisesBy (by_itself kernel work + as_block o) old new
turn-rises None work kernel old new its counted = rises-same (by_itself kernel work + 0) old new counted
turn-rises (Some (Answered place reply)) work kernel old new its counted = rises-same (by_itself kernel work + 0) old new counted
turn-rises (Some (AnsweredBlock place replies)) work kernel old new its counted = rises-same (by_itself kernel work + 0) old new counted
turn-rises (Some (RefusedBlock calls)) work kernel old new its counted = rises-more (length calls.items) (by_itself kernel work + length calls.items) old new (omega arith) counted
turn-rises (Some (Refused c)) (Some work) kernel old new its counted = rises-same (0 + 0) old new counted
turn-rises (Some (Refused c)) None kernel old new its counted =
    rises-more (kernels_of kernel) (kernels_of kernel + 0) old new (omega arith) (subst (λ b. RisesBy (kernels_of b) old new) (sym (its c refl)) counted)

size-here : (os : List Outcome) (p : ℕ) → as_block (slice_get os p) ≡ size_at os p
size-here [] p = refl
size-here (o ∷ os) zero = refl
size-here (o ∷ os) (suc p) = size-here os p

rises-three : (a b d most : ℕ) (start m0 m1 m2 : Metered) → a + b + d ≤ most → RisesBy a start m0 → RisesBy b m0 m1 → RisesBy d m1 m2 → RisesBy most start m2
rises-three a b d most start m0 m1 m2 le one two three = rises-both (a + b) d most start m1 m2 le (rises-both a b (a + b) start m0 m1 (omega arith) one two) three

module _ (words : List Word) (before after : List Turn) (position : ℕ) (here : position < length words) (together : AreOpenTogether words before position) (closes : ClosesOnly words (word_at words position) before after) where
  abbrev D : ℕ
  D = different_kernels (take position words)

  abbrev more : ℕ
  more = different_kernels (take (position + 1) words)

  abbrev kernel : Bool
  kernel = runs_kernel (word_at words position)

  le : D ≤ more
  le = kernels-le words position here

  new : slice_get before position ≡ Some Open → kernel ≡ true → more ≡ 1 + D
  new was runs = kernels-new words position here runs (open-new words before position here together was runs)

  -- joining, and the turn of the job by itself or with its work
  counted_by : (said : Result Effect Fault) (turn : Turn) (work : Option Work) (start m0 m1 m2 : Metered) (others size : ℕ) → slice_get after position ≡ Some turn → HasWork kernel said turn work
      → CountsJoin kernel (slice_get before position) (slice_get after position) m0 m1 → RisesBy (by_itself kernel work + size) m1 m2 → RisesBy (D + others) start m0 → RisesBy (more + (others + size + single_of turn)) start m2
  counted_by said Open None start m0 m1 m2 others size is has (inl same) own rises = by kernel refl own
    where
      by : (b : Bool) → kernel ≡ b → RisesBy (kernels_of b + size) m1 m2 → RisesBy (more + (others + size + 0)) start m2
      by true runs one = let up = new (closes.opens position is) runs in rises-three (D + others) 0 (1 + size) (more + (others + size + 0)) start m0 m1 m2 (omega arith) rises (rises-same 0 m0 m1 same) one
      by false runs none = let up = le in rises-three (D + others) 0 (0 + size) (more + (others + size + 0)) start m0 m1 m2 (omega arith) rises (rises-same 0 m0 m1 same) none
  counted_by said Open None start m0 m1 m2 others size is has (inr led) own rises = absurd (led.3 is)
  counted_by said Open (Some work) start m0 m1 m2 others size is has joined own rises = absurd has
  counted_by said Single None start m0 m1 m2 others size is has (inl same) own rises =
      let one : RisesBy (1 + size) m1 m2 = subst (λ b. RisesBy (kernels_of b + size) m1 m2) has own in
      let up = le in
      rises-three (D + others) 0 (1 + size) (more + (others + size + 1)) start m0 m1 m2 (omega arith) rises (rises-same 0 m0 m1 same) one
  counted_by said Single None start m0 m1 m2 others size is has (inr led) own rises =
      let one : RisesBy (1 + size) m1 m2 = subst (λ b. RisesBy (kernels_of b + size) m1 m2) has own in
      let up = new led.2 led.1 in
      rises-three (D + others) 1 (1 + size) (more + (others + size + 1)) start m0 m1 m2 (omega arith) rises (rises-one m0 m1 led.0) one
  counted_by said Single (Some work) start m0 m1 m2 others size is has joined own rises = absurd has
  counted_by said (Faulty f) None start m0 m1 m2 others size is has joined own rises = absurd has
  counted_by said (Faulty f) (Some work) start m0 m1 m2 others size is has (inl same) own rises =
      let up = le in rises-three (D + others) 0 (0 + size) (more + (others + size + 0)) start m0 m1 m2 (omega arith) rises (rises-same 0 m0 m1 same) own
  counted_by said (Faulty f) (Some work) start m0 m1 m2 others size is has (inr led) own rises =
      let up = new led.2 led.1 in rises-three (D + others) 1 (0 + size) (more + (others + size + 0)) start m0 m1 m2 (omega arith) rises (rises-one m0 m1 led.0) own
  counted_by said Joined None start m0 m1 m2 others size is has joined own rises = absurd has
  counted_by said Joined (Some work) start m0 m1 m2 others size is has (inl same) own rises =
      let up = le in rises-three (D + others) 0 (0 + size) (more + (others + size + 0)) start m0 m1 m2 (omega arith) rises (rises-same 0 m0 m1 same) own
  counted_by said Joined (Some work) start m0 m1 m2 others size is has (inr led) own rises =
      let up = new led.2 led.1 in rises-three (D + others) 1 (0 + size) (more + (others + size + 0)) start m0 m1 m2 (omega arith) rises (rises-one m0 m1 led.0) own

pub next-counted : (words : List Word) (os : List Outcome) (places : List ℕ) (position : ℕ) (before after : List Turn) (said : Result Effect Fault) (turn : Turn) (work : Option Work) (m0 m1 m2 : Metered) (result : ℕ) → AreWords words os places
    → position < length places → length words ≡ length places → AreOpenTogether words before position → ClosesOnly words (word_at words position) before after → slice_get after position ≡ Some turn
    → HasWork (runs_kernel (word_at words position)) said turn work → CountsJoin (runs_kernel (word_at words position)) (slice_get before position) (slice_get after position) m0 m1
    → CountsTurn (slice_get os (slice_index places position)) work m1 m2 → result ≡ single_of turn
    → (start : Metered) (others : ℕ) → RisesBy (different_kernels (take position words) + others) start m0
    → RisesBy (different_kernels (take (position + 1) words) + (others + size_at os (slice_index places position) + result)) start m2
next-counted words os places position before after said turn work m0 m1 m2 result are lt paired together closes is has joined counted ends start others rises =
    let own = turn-rises (slice_get os (slice_index places position)) work (runs_kernel (word_at words position)) m1 m2 (λ c back. ap runs_kernel (are position c lt back)) counted in
    let sized = subst (λ (n : ℕ). RisesBy (by_itself (runs_kernel (word_at words position)) work + n) m1 m2) (size-here os (slice_index places position)) own in
    subst (λ (n : ℕ). RisesBy (different_kernels (take (position + 1) words) + (others + size_at os (slice_index places position) + n)) start m2) (sym ends)
    (counted_by words before after position (omega arith) together closes said turn work start m0 m1 m2 others (size_at os (slice_index places position)) is has joined sized rises)

open-get : (n b : ℕ) → b < n → slice_get (replicate n Open) b ≡ Some Open
open-get zero b lt = absurd (omega arith)
open-get (suc n) zero lt = refl
open-get (suc n) (suc b) lt = open-get n b (omega arith)

-- at a wave's beginning nothing is noted, and all calls are open
pub prepared-none : (m : State) (outcomes : List Outcome) (places : List ℕ) (words : List Word) (works : List (Option Work)) → length places ≤ 64 → ArePrepared m outcomes places words (replicate 64 Open) works 0
prepared-none m outcomes places words works few b low high =
    subst (λ t. IsPrepared (runs_kernel (word_at words b)) (work_at m outcomes places b) t (slice_get works b)) (sym (open-get 64 b (omega arith))) tt

pub together-first : (words : List Word) (n : ℕ) → length words ≡ n → n ≤ 64 → AreOpenTogether words (replicate 64 Open) 0
together-first words n long few a b within low high is_open kernel same = (omega arith, open-get 64 a (omega arith))

-- what goes by the jobs that are back stays so where fewer are back
pub words-kept : (words : List Word) (old new : List Outcome) (places : List ℕ) → WereBack old new → AreWords words old places → AreWords words new places
words-kept words old new places back are b c lt there = are b c lt (back (slice_index places b) (Refused c) there refl)

none-back : (o : Outcome) → is_answered o ≡ true → tasks_back o ≡ []
none-back (Answered place reply) e = refl
none-back (Refused c) e = absurd cc
none-back (AnsweredBlock place replies) e = refl
none-back (RefusedBlock calls) e = absurd cc

none-clash : (ts : List Task) → jobs_clash ts [] ≡ false
none-clash [] = refl
none-clash (t ∷ ts) = none-clash ts

clash-kept : (old new : List Outcome) (p q : ℕ) → WereBack old new → DoNotClash old p q → DoNotClash new p q
clash-kept old new p q back apart first second at then = by (is_answered first) (is_answered second) refl refl
  where
    by : (a b : Bool) → is_answered first ≡ a → is_answered second ≡ b → jobs_clash (tasks_back first) (tasks_back second) ≡ false
    by true b e f = ap (λ (ts : List Task). jobs_clash ts (tasks_back second)) (none-back first e)
    by false true e f = ap (jobs_clash (tasks_back first)) (none-back second f) ∙ none-clash (tasks_back first)
    by false false e f = apart first second (back p first at e) (back q second then f)

pub apart-kept : (old new : List Outcome) (places : List ℕ) → WereBack old new → AllPairs (DoNotClash old) places → AllPairs (DoNotClash new) places
apart-kept old new places back apart i j d lt within = clash-kept old new (get_or places i d) (get_or places j d) back (apart i j d lt within)

pub lawful-kept : (old new : List Outcome) → WereBack old new → AreLawful old → AreLawful new
lawful-kept old new back lawful p o at = by o (λ lacks. lawful p o (back p o at lacks))
  where
    by : (u : Outcome) → (is_answered u ≡ false → IsLawfulBack u) → IsLawfulBack u
    by (Answered place reply) was = tt
    by (Refused c) was = tt
    by (AnsweredBlock place replies) was = tt
    by (RefusedBlock calls) was = was refl

-- at a place no more calls are back as a block than before
pub size-kept : (old new : List Outcome) → WereBack old new → (p : ℕ) → size_at new p ≤ size_at old p
size-kept old new back p = by (slice_get new p) refl
  where
    at : (o : Outcome) → slice_get new p ≡ Some o → size_at new p ≡ size_back o → size_at new p ≤ size_at old p
    at (Answered place reply) there is = omega arith
    at (Refused c) there is = omega arith
    at (AnsweredBlock place replies) there is = omega arith
    at (RefusedBlock calls) there is =
        let was : size_at old p ≡ length calls.items = sym (size-here old p) ∙ ap as_block (back p (RefusedBlock calls) there refl) in
        omega arith

    by : (o : Option Outcome) → slice_get new p ≡ o → size_at new p ≤ size_at old p
    by None there = let none : size_at new p ≡ 0 = sym (size-here new p) ∙ ap as_block there in omega arith
    by (Some o) there = at o there (sym (size-here new p) ∙ ap as_block there)

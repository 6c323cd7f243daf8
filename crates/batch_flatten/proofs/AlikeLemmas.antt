-- Alike calls in one wave: the requests are apart (`wave-apart-all`), and the places of one wave are all places (`one-wave`).
use Rattle.std.proofs.Common.{◌≡◌, ◌==◌, ◌++◌, ℕ, zero, suc, ◌+◌, ◌<◌, ◌≤◌, ◌&&◌, ◌||◌, All, Bool, IfOk, IfSome, true, false, cond, List, [], ◌∷◌, length, map, filter, Some, Result, Ok, Err, refl, sym, ap, ◌∙◌, subst, arith, append-nil, slice_get, slice_index}
use Rattle.std.specs.List.{AllByRecursion, list_any, range_with_len}
use Rattle.std.specs.Result.{result_ok}
use Rattle.std.proofs.lemmas.List.{length-map}
use Rattle.scan_kernels.specs.Metering.{Metered}
use Rattle.cvl_text.specs.declared.word.Word.{Word}
use Rattle.cvl_text.specs.declared.word.Word.TheVariants as words
use Rattle.cvl_text.specs.declared.word.AskWord.TheVariants as asks
use Rattle.cvl_text.specs.Tasks.{Task, task_of}
use Rattle.cvl_calls.specs.Runs.{TakesNoMemory, runs_kernel}
use Rattle.call_history.specs.declared.request.Job.{Job}
use Rattle.call_history.specs.declared.request.Job.TheVariants.{One, Many}
use Rattle.call_history.specs.declared.request.Request.{Request}
use Rattle.call_history.specs.declared.request.Outcome.{Outcome}
use Rattle.batch_flatten.specs.Alike.{AllApart, AreOfWord, IsCall, IsForCall}
use Rattle.batch_flatten.specs.Waves.{asked, count_of, free_from, in_wave, is_barred, jobs_clash, wave_of, waves_behind, waves_of}
use Rattle.batch_flatten.specs.Places.{places_of, places_of_first}
use Rattle.batch_flatten.specs.Batches.{AnswersAllSure, NeedsNoMemory}
use Rattle.batch_flatten.specs.Counts.{different, different_kernels, is_one_of, kernel_bound, kernels_below, kernels_of, size_asked, wave_count, word_asked, word_of_job}
use Rattle.batch_flatten.proofs.ApartLemmas.{waves-apart}
use Rattle.batch_flatten.proofs.PlaceLemmas.{length-range}
use Rattle.batch_flatten.proofs.WaveLemmas.{length-waves_of, or_none}

-- what is said of an answer is said of it as an option
pub if-ok-some : {X E : Type 0} (r : Result X E) (P Q : X → Type 0) → ((x : X) → P x → Q x) → IfOk r P → IfSome (result_ok r) Q
if-ok-some (Ok x) P Q goes said = goes x said
if-ok-some (Err e) P Q goes said = tt

-- a meter that rose is the old one with as many runs as it has now
pub as-risen : (old new : Metered) → new.chunk ≡ old.chunk → new ≡ record old { runs = new.runs }
as-risen old new same = λ i. record { runs = new.runs; chunk = same i }

or_false : (a b : Bool) → (a || b) ≡ false → (a ≡ false) × (b ≡ false)
or_false true b e = absurd cc
or_false false b e = (refl, e)

-- each of these numbers is 0
abbrev AreZero : List ℕ → Type 0
AreZero ws = AllByRecursion (λ w. w ≡ 0) ws

one-is-zero : (ws : List ℕ) → count_of ws ≤ 1 → AreZero ws
one-is-zero [] few = tt
one-is-zero (w ∷ ws) few = (omega arith, one-is-zero ws (omega arith))

zero-at : (ws : List ℕ) (i : ℕ) → AreZero ws → slice_index ws i ≡ 0
zero-at [] i zeros = refl
zero-at (w ∷ ws) zero zeros = zeros.0
zero-at (w ∷ ws) (suc i) zeros = zero-at ws i zeros.1

all-in-wave : {X : Type 0} (ws : List ℕ) (xs : List X) → AreZero ws → length ws ≡ length xs → in_wave 0 ws xs ≡ xs
all-in-wave [] [] zeros long = refl
all-in-wave [] (x ∷ xs) zeros long = absurd (omega arith)
all-in-wave (w ∷ ws) [] zeros long = absurd (omega arith)
all-in-wave (w ∷ ws) (x ∷ xs) zeros long =
    ap (λ (v : ℕ). cond (v == 0) (x ∷ in_wave 0 ws xs) (in_wave 0 ws xs)) zeros.0 ∙ ap (λ l. x ∷ l) (all-in-wave ws xs zeros.1 (omega arith))

-- the places of one wave are all places
pub one-wave : (ws : List ℕ) → count_of ws ≤ 1 → places_of_first ws 1 ≡ range_with_len 0 (length ws)
one-wave ws few = append-nil (places_of ws 0) ∙ all-in-wave ws (range_with_len 0 (length ws)) (one-is-zero ws few) (sym (length-range 0 (length ws)))

-- where there are requests there is a wave
pub some-wave : (ws : List ℕ) → 0 < length ws → count_of ws ≤ 1 → count_of ws ≡ 1
some-wave [] some few = absurd (omega arith)
some-wave (w ∷ ws) some few = omega arith

pub one-wave-count : (rs : List Request) → 0 < length rs → wave_count rs ≤ 1 → wave_count rs ≡ 1
one-wave-count rs some few = some-wave (waves_of (map asked rs)) (omega (arith, length-waves_of (map asked rs), length-map rs asked)) few

asked-at : (rs : List Request) (i : ℕ) (r : Request) → slice_get rs i ≡ Some r → slice_get (map asked rs) i ≡ Some (asked r)
asked-at [] i r there = absurd cc
asked-at (q ∷ rs) zero r there = let same : q ≡ r = cc in ap (λ (z : Request). Some (asked z)) same
asked-at (q ∷ rs) (suc i) r there = asked-at rs i r there

every : (P : Request → Type 0) (rs : List Request) → ((j : ℕ) (s : Request) → slice_get rs j ≡ Some s → P s) → AllByRecursion P rs
every P [] each = tt
every P (r ∷ rs) each = (each 0 r refl, every P rs (λ j s there. each (suc j) s there))

apart-each : (rs : List Request) → ((i j : ℕ) (r s : Request) → i < j → slice_get rs i ≡ Some r → slice_get rs j ≡ Some s → jobs_clash (asked r) (asked s) ≡ false) → AllApart rs
apart-each [] each = tt
apart-each (r ∷ rs) each = (
  every (λ s. jobs_clash (asked r) (asked s) ≡ false) rs (λ j s there. each 0 (suc j) r s (omega arith) refl there),
  apart-each rs (λ i j q s lt at then. each (suc i) (suc j) q s (omega arith) at then),
)

-- no request of one wave reads the target of an earlier one
pub wave-apart-all : (rs : List Request) → wave_count rs ≤ 1 → AllApart rs
wave-apart-all rs few = apart-each rs (λ i j r s lt at then.
    waves-apart (map asked rs) i j (asked r) (asked s) lt (asked-at rs i r at) (asked-at rs j s then)
    (zero-at (waves_of (map asked rs)) i zeros ∙ sym (zero-at (waves_of (map asked rs)) j zeros)))
  where
    zeros : AreZero (waves_of (map asked rs))
    zeros = one-is-zero (waves_of (map asked rs)) few

none-clash : (r : Request) (rs : List Request) → list_any (λ s. jobs_clash (asked r) (asked s)) rs ≡ false → AllByRecursion (λ s. jobs_clash (asked r) (asked s) ≡ false) rs
none-clash r [] none = tt
none-clash r (s ∷ ss) none = let both = or_false (jobs_clash (asked r) (asked s)) (list_any (λ q. jobs_clash (asked r) (asked q)) ss) none in (both.0, none-clash r ss both.1)

-- the first request is apart from the later ones, and these are
pub apart-more : (rs later : List Request) (r : Request) → rs ≡ r ∷ later → list_any (λ s. jobs_clash (asked r) (asked s)) later ≡ false → AllApart later → AllApart rs
apart-more rs later r is none apart = subst AllApart (sym is) (none-clash r later none, apart)

-- jobs of the first wave, of which none clashes with this one
abbrev AreFirst : List (ℕ × (List Task)) → List Task → Type 0
AreFirst before t = AllByRecursion (λ p. (p.0 ≡ 0) × (jobs_clash p.1 t ≡ false)) before

not-barred : (before : List (ℕ × (List Task))) (t : List Task) → AreFirst before t → is_barred before t 0 ≡ false
not-barred [] t first = refl
not-barred (p ∷ ps) t first = or_none (p.0 == 0 && jobs_clash p.1 t) (is_barred ps t 0) (and_false (p.0 == 0) (jobs_clash p.1 t) first.0.1) (not-barred ps t first.1)
  where
    and_false : (a b : Bool) → b ≡ false → (a && b) ≡ false
    and_false true b e = e
    and_false false b e = refl

first-wave : (before : List (ℕ × (List Task))) (t : List Task) → AreFirst before t → wave_of before t ≡ 0
first-wave before t first = by (length before) (not-barred before t first)
  where
    by : (n : ℕ) → is_barred before t 0 ≡ false → free_from before t 0 n ≡ 0
    by zero free = refl
    by (suc n) free = ap (λ b. cond b (free_from before t 1 n) 0) free

-- each of these jobs may follow those before it in the first wave
abbrev MayFollow : List (ℕ × (List Task)) → List Request → Type 0
MayFollow before rs = AllByRecursion (λ r. AreFirst before (asked r)) rs

first-more : (before : List (ℕ × (List Task))) (p : ℕ × (List Task)) (t : List Task) → AreFirst before t → p.0 ≡ 0 → jobs_clash p.1 t ≡ false → AreFirst (before ++ p ∷ []) t
first-more [] p t first zeroth apart = ((zeroth, apart), tt)
first-more (q ∷ qs) p t first zeroth apart = (first.0, first-more qs p t first.1 zeroth apart)

follow-more : (before : List (ℕ × (List Task))) (p : ℕ × (List Task)) (rs : List Request) → MayFollow before rs → p.0 ≡ 0 → AllByRecursion (λ s. jobs_clash p.1 (asked s) ≡ false) rs → MayFollow (before ++ p ∷ []) rs
follow-more before p [] may zeroth apart = tt
follow-more before p (r ∷ rs) may zeroth apart = (first-more before p (asked r) may.0 zeroth apart.0, follow-more before p rs may.1 zeroth apart.1)

apart-zero : (before : List (ℕ × (List Task))) (rs : List Request) → MayFollow before rs → AllApart rs → AreZero (waves_behind before (map asked rs))
apart-zero before [] may apart = tt
apart-zero before (r ∷ rs) may apart =
    let zeroth = first-wave before (asked r) may.0 in
    (zeroth, apart-zero (before ++ (wave_of before (asked r), asked r) ∷ []) rs (follow-more before (wave_of before (asked r), asked r) rs may.1 zeroth apart.0) apart.1)

may-begin : (rs : List Request) → MayFollow [] rs
may-begin [] = tt
may-begin (r ∷ rs) = (tt, may-begin rs)

zero-few : (ws : List ℕ) → AreZero ws → count_of ws ≤ 1
zero-few [] zeros = omega arith
zero-few (w ∷ ws) zeros = let first = zeros.0 in let rest = zero-few ws zeros.1 in omega arith

-- requests of which none reads the target of an earlier one are one wave
pub apart-one-wave : (rs : List Request) → AllApart rs → wave_count rs ≤ 1
apart-one-wave rs apart = zero-few (waves_of (map asked rs)) (apart-zero [] rs (may-begin rs) apart)

-- there is a word at least
some-different : (w : Word) (ws : List Word) → 1 ≤ different (w ∷ ws)
some-different w [] = omega arith
some-different w (v ∷ vs) = by (is_one_of (v ∷ vs) w) (some-different v vs)
  where
    by : (b : Bool) → 1 ≤ different (v ∷ vs) → 1 ≤ cond b (different (v ∷ vs)) (1 + different (v ∷ vs))
    by true some = some
    by false some = omega arith

some-kernel : (ws : List Word) (word : Word) → 0 < length ws → All (λ w. w ≡ word) ws → runs_kernel word ≡ true → 1 ≤ different_kernels ws
some-kernel [] word some all kernel = absurd (omega arith)
some-kernel (w ∷ ws) word some all kernel =
    let runs : runs_kernel w ≡ true = ap runs_kernel (all 0 w (omega arith)) ∙ kernel in
    subst (λ l. 1 ≤ different l) (sym (ap (λ b. cond b (w ∷ filter runs_kernel ws) (filter runs_kernel ws)) runs)) (some-different w (filter runs_kernel ws))

words-all : (rs : List Request) (word : Word) → AreOfWord word rs → All (λ w. w ≡ word) (map word_asked rs)
words-all [] word all k d lt = absurd (omega arith)
words-all (r ∷ rs) word all zero d lt = all 0 r (omega arith)
words-all (r ∷ rs) word all (suc k) d lt = words-all rs word (λ i q low. all (suc i) q (omega arith)) k d (omega arith)

-- a batch of calls that run a kernel may run one
pub some-bound : (rs : List Request) (word : Word) → 0 < length rs → wave_count rs ≤ 1 → AreOfWord word rs → runs_kernel word ≡ true → 1 ≤ kernel_bound rs
some-bound rs word some few all kernel =
    subst (λ (n : ℕ). 1 ≤ kernels n) (sym (some-wave ws (omega (arith, long)) few)) one
  where
    ws : List ℕ
    ws = waves_of (map asked rs)

    long : length ws ≡ length rs
    long = length-waves_of (map asked rs) ∙ length-map rs asked

    kernels : ℕ → ℕ
    kernels n = kernels_below ws (map word_asked rs) (map size_asked rs) n

    one : 1 ≤ kernels 1
    one =
        let words_are : in_wave 0 ws (map word_asked rs) ≡ map word_asked rs = all-in-wave ws (map word_asked rs) (one-is-zero ws few) (long ∙ sym (length-map rs word_asked)) in
        let least = some-kernel (map word_asked rs) word (omega (arith, length-map rs word_asked)) (words-all rs word all) kernel in
        let here : 1 ≤ different_kernels (in_wave 0 ws (map word_asked rs)) = subst (λ l. 1 ≤ different_kernels l) (sym words_are) least in
        omega arith

kernel-takes : (w : Word) → TakesNoMemory w → runs_kernel w ≡ true → ⊥
kernel-takes (words.Ask asks.Free) takes kernel = cc
kernel-takes (words.Ask asks.Len) takes kernel = cc
kernel-takes words.Ext takes kernel = cc
kernel-takes other takes kernel = takes

needs-none : (job : Job) (word : Word) → word_of_job job ≡ word → runs_kernel word ≡ true → NeedsNoMemory job → ⊥
needs-none (One call) word is kernel needs = kernel-takes (task_of call).word needs (ap runs_kernel is ∙ kernel)
needs-none (Many calls) word is kernel needs = needs

-- a call that runs a kernel is none that takes no memory
pub alike-sure : (rs : List Request) (os : List Outcome) (word : Word) → AreOfWord word rs → runs_kernel word ≡ true → AnswersAllSure rs os
alike-sure [] os word all kernel = tt
alike-sure (r ∷ rs) [] word all kernel = tt
alike-sure (r ∷ rs) (o ∷ os) word all kernel =
    ((λ needs. absurd (needs-none r.job word (all 0 r (omega arith)) kernel needs)), alike-sure rs os word (λ i q low. all (suc i) q (omega arith)) kernel)

-- a request for a call of a word that runs a kernel is for a single call
call-asked : (job : Job) (word : Word) → word_of_job job ≡ word → runs_kernel word ≡ true → IsCall job
call-asked (One call) word is kernel = tt
call-asked (Many calls) word is kernel = let none : runs_kernel (word_of_job (Many calls)) ≡ true = ap runs_kernel is ∙ kernel in absurd cc

pub calls-asked : (rs : List Request) (word : Word) → AreOfWord word rs → runs_kernel word ≡ true → AllByRecursion IsForCall rs
calls-asked [] word all kernel = tt
calls-asked (r ∷ rs) word all kernel = (call-asked r.job word (all 0 r (omega arith)) kernel, calls-asked rs word (λ i q low. all (suc i) q (omega arith)) kernel)

pub at-most-one : (b : Bool) → kernels_of b ≤ 1
at-most-one true = omega arith
at-most-one false = omega arith

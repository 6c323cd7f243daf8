-- Numbers that hold places (`is_in-..`), and what planning finds by them: of the jobs with a target that a job reads none is passed
-- over (`barred-suspects`), and one of the places less bars its wave (`bars-step`). A plan of nothing is one (`empty-block_plan`).
use Rattle.std.proofs.Common.{◌≡◌, ◌≢◌, ◌==◌, ℕ, zero, suc, ◌+◌, ◌*◌, ◌%◌, ◌^◌, ◌<◌, ◌≤◌, min, max, Bool, true, false, ◌&&◌, ◌||◌, List, [], ◌∷◌, ◌++◌, length, map, Option, Some, None, refl, sym, ap, ◌∙◌, subst, inl, inr, arith, add-one, ne_eqb, eq-eqb, set, get_or, take, replicate, bit_and, bit_or}
use Rattle.std.specs.Int.{bit_at, bit_not, trailing_zeros, w64}
use Rattle.std.specs.List.{list_any}
use Rattle.std.proofs.lemmas.Bool.{cases_lt}
use Rattle.std.proofs.lemmas.Bool.Decides.{Decides-eqb}
use Rattle.std.proofs.lemmas.Grind.{get_or-set_at}
use Rattle.std.proofs.lemmas.List.{get_or-map, get_or-set_other, map_more}
use Rattle.std.proofs.lemmas.List.Folds.{list_any-append}
use Rattle.std.proofs.lemmas.Nat.{and_le_l}
use Rattle.std.proofs.lemmas.Nat.Bits.{bit_at-lt, bit_at-zero, bit_at-trailing_zeros, bit_at_and, bit_at_or, bit_at_set_same, bit_at_set_other, bit_at_clear_same, bit_at_clear_other}
use Rattle.std.proofs.lemmas.Slice.Eq.{slice_eq-Decides}
use mathlib.Core.Logic.{dite}
use native.Mathlib.Decide.{ℕ_discrete}
use Rattle.vector_memory.specs.Names.{bucket_of, same_name}
use Rattle.vector_memory.specs.declared.name.Name.{Name}
use Rattle.cvl_text.specs.declared.call.Call.{Call}
use Rattle.cvl_text.specs.Tasks.{Task, reads, target, task_of}
use Rattle.call_history.specs.declared.request.Request.{Request}
use Rattle.batch_flatten.specs.declared.block_plan.BlockPlan.{BlockPlan}
use Rattle.batch_flatten.specs.Waves.{asked, clashes, is_among, is_barred, jobs_clash}
use Rattle.batch_flatten.specs.Plans.{placed}
use Rattle.batch_flatten.specs.Targets.{lies_in}
use Rattle.batch_flatten.specs.BlockPlans.{IsBlockPlan, bars_among, has_target_in, is_held, is_in, is_suspect, job_at}
use Rattle.batch_flatten.proofs.WaveLemmas.{barred-push, placed-more}

-- ---- numbers that hold places

or_one : (x y : ℕ) → x < 2 → y < 2 → (max x y == 1) ≡ ((x == 1) || (y == 1))
or_one zero zero few less = refl
or_one zero (suc zero) few less = refl
or_one zero (suc (suc y)) few less = absurd (omega arith)
or_one (suc zero) zero few less = refl
or_one (suc zero) (suc zero) few less = refl
or_one (suc zero) (suc (suc y)) few less = absurd (omega arith)
or_one (suc (suc x)) y few less = absurd (omega arith)

pub is_in-or : (a b i : ℕ) → is_in (bit_or a b) i ≡ (is_in a i || is_in b i)
is_in-or a b i = ap (λ (n : ℕ). n == 1) (bit_at_or a b i) ∙ or_one (bit_at a i) (bit_at b i) (bit_at-lt a i) (bit_at-lt b i)

pub is_in-zero : (i : ℕ) → is_in 0 i ≡ false
is_in-zero i = ap (λ (n : ℕ). n == 1) (bit_at-zero i)

pub is_in-set_same : (n k : ℕ) → k < 64 → is_in (bit_or n (1 * 2 ^ k % 2 ^ 64)) k ≡ true
is_in-set_same n k within = ap (λ (x : ℕ). x == 1) (bit_at_set_same w64 n k within)

pub is_in-set_other : (n k i : ℕ) → k < 64 → i ≢ k → is_in (bit_or n (1 * 2 ^ k % 2 ^ 64)) i ≡ is_in n i
is_in-set_other n k i within other = ap (λ (x : ℕ). x == 1) (bit_at_set_other w64 n k within i other)

pub is_in-clear_same : (n k : ℕ) → k < 64 → is_in (bit_and n (bit_not w64 (1 * 2 ^ k % 2 ^ 64))) k ≡ false
is_in-clear_same n k within = ap (λ (x : ℕ). x == 1) (bit_at_clear_same w64 n k within)

pub is_in-clear_other : (n k i : ℕ) → k < 64 → i < 64 → i ≢ k → is_in (bit_and n (bit_not w64 (1 * 2 ^ k % 2 ^ 64))) i ≡ is_in n i
is_in-clear_other n k i within low other = ap (λ (x : ℕ). x == 1) (bit_at_clear_other w64 n k within i low other)

and_one : (x y : ℕ) → x < 2 → (x == 1) ≡ false → (min x y == 1) ≡ false
and_one zero y few none = let least : min 0 y ≡ 0 = omega arith in ap (λ (n : ℕ). n == 1) least
and_one (suc zero) y few none = absurd cc
and_one (suc (suc x)) y few none = absurd (omega arith)

pub is_in-less : (a b i : ℕ) → is_in a i ≡ false → is_in (bit_and a b) i ≡ false
is_in-less a b i none = ap (λ (n : ℕ). n == 1) (bit_at_and a b i) ∙ and_one (bit_at a i) (bit_at b i) (bit_at-lt a i) none

-- the lowest of the places, and fewer where it is taken away
pub lowest-in : (n : ℕ) → 0 < n → n < 2 ^ 64 → (trailing_zeros w64 n < 64) × (is_in n (trailing_zeros w64 n) ≡ true)
lowest-in n some fits = let h = bit_at-trailing_zeros w64 n some fits in (h.0, ap (λ (x : ℕ). x == 1) h.1)

pub clear-less : (n k : ℕ) → k < 64 → is_in n k ≡ true → bit_and n (bit_not w64 (1 * 2 ^ k % 2 ^ 64)) < n
clear-less n k within there =
    let rest : ℕ = bit_and n (bit_not w64 (1 * 2 ^ k % 2 ^ 64)) in
    let le : rest ≤ n = and_le_l n (bit_not w64 (1 * 2 ^ k % 2 ^ 64)) in
    dite (ℕ_discrete rest n)
    (λ same. let no : true ≡ false = sym there ∙ ap (λ (x : ℕ). is_in x k) (sym same) ∙ is_in-clear_same n k within in absurd cc)
    (λ other. omega arith)

-- ---- what stands in the buckets

pub or_false : (b : Bool) → (b || false) ≡ b
or_false true = refl
or_false false = refl

or_true : (b : Bool) → (b || true) ≡ true
or_true true = refl
or_true false = refl

pub or_assoc : (a b c : Bool) → ((a || b) || c) ≡ (a || (b || c))
or_assoc true b c = refl
or_assoc false b c = refl

pub any-push : {X : Type 0} (p : X → Bool) (xs : List X) (x : X) → list_any p (xs ++ x ∷ []) ≡ (list_any p xs || p x)
any-push p xs x = list_any-append p xs (x ∷ []) ∙ ap (λ b. list_any p xs || b) (or_false (p x))

pub any-map : {X Y : Type 0} (p : Y → Bool) (f : X → Y) (xs : List X) → list_any p (map f xs) ≡ list_any (λ x. p (f x)) xs
any-map p f [] = refl
any-map p f (x ∷ xs) = ap (λ b. p (f x) || b) (any-map p f xs)

-- the place joins the bucket c, or it was there before
pub held-here : (rows : List ℕ) (c b k : ℕ) → c < length rows → k < 64 → is_in (get_or (set rows c (bit_or (get_or rows c 0) (1 * 2 ^ k % 2 ^ 64))) b 0) k ≡ (is_in (get_or rows b 0) k || c == b)
held-here rows c b k within few = dite (ℕ_discrete b c)
    (λ is. ap (λ (n : ℕ). is_in n k) (get_or-set_at rows c b (bit_or (get_or rows c 0) (1 * 2 ^ k % 2 ^ 64)) 0 is within)
    ∙ is_in-set_same (get_or rows c 0) k few
    ∙ sym (or_true (is_in (get_or rows b 0) k))
    ∙ ap (λ x. is_in (get_or rows b 0) k || x) (sym (eq-eqb c b (sym is))))
    (λ other. ap (λ (n : ℕ). is_in n k) (get_or-set_other rows c b (bit_or (get_or rows c 0) (1 * 2 ^ k % 2 ^ 64)) 0 other)
    ∙ sym (or_false (is_in (get_or rows b 0) k))
    ∙ ap (λ x. is_in (get_or rows b 0) k || x) (sym (ne_eqb c b (λ e. other (sym e)))))

pub held-other : (rows : List ℕ) (c b k i : ℕ) → c < length rows → k < 64 → i ≢ k → is_in (get_or (set rows c (bit_or (get_or rows c 0) (1 * 2 ^ k % 2 ^ 64))) b 0) i ≡ is_in (get_or rows b 0) i
held-other rows c b k i within few apart = dite (ℕ_discrete b c)
    (λ is. ap (λ (n : ℕ). is_in n i) (get_or-set_at rows c b (bit_or (get_or rows c 0) (1 * 2 ^ k % 2 ^ 64)) 0 is within)
    ∙ is_in-set_other (get_or rows c 0) k i few apart
    ∙ ap (λ (n : ℕ). is_in (get_or rows n 0) i) (sym is))
    (λ other. ap (λ (n : ℕ). is_in n i) (get_or-set_other rows c b (bit_or (get_or rows c 0) (1 * 2 ^ k % 2 ^ 64)) 0 other))

pub held-one : (rows : List ℕ) (i x : ℕ) (n : Name) → x ≡ get_or rows (bucket_of n) 0 → is_in x i ≡ is_held rows i (n ∷ [])
held-one rows i x n is = ap (λ (k : ℕ). is_in k i) is ∙ sym (or_false (is_in (get_or rows (bucket_of n) 0) i))

pub held-more : (rows : List ℕ) (i x y : ℕ) (names : List Name) (n : Name) → is_in x i ≡ is_held rows i names → y ≡ get_or rows (bucket_of n) 0 → is_in (bit_or x y) i ≡ is_held rows i (names ++ n ∷ [])
held-more rows i x y names n so_far is =
    is_in-or x y i ∙ ap (λ b. b || is_in y i) so_far ∙ ap (λ (k : ℕ). is_held rows i names || is_in k i) is
    ∙ sym (any-push (λ m. is_in (get_or rows (bucket_of m) 0) i) names n)

pub suspect-more : (rows : List ℕ) (i x y : ℕ) (job : List Task) (t : Task) → is_in x i ≡ is_suspect rows i job → is_in y i ≡ is_held rows i (reads t) → is_in (bit_or x y) i ≡ is_suspect rows i (job ++ t ∷ [])
suspect-more rows i x y job t so_far is =
    is_in-or x y i ∙ ap (λ b. b || is_in y i) so_far ∙ ap (λ b. is_suspect rows i job || b) is
    ∙ sym (any-push (λ u. is_held rows i (reads u)) job t)

pub target-more : (b : ℕ) (job : List Task) (t : Task) → has_target_in b (job ++ t ∷ []) ≡ (has_target_in b job || lies_in b (target t))
target-more b job t = any-push (λ u. lies_in b (target u)) job t

-- one more call of a job, with this target
pub target-lies : (a : Bool) (b : ℕ) (calls : List Call) (k : ℕ) (d : Call) (to : Option Name) → k < length calls → target (task_of (get_or calls k d)) ≡ to
    → ((a || has_target_in b (map task_of (take k calls))) || lies_in b to) ≡ (a || has_target_in b (map task_of (take (k + 1) calls)))
target-lies a b calls k d to within is =
    let so_far : List Task = map task_of (take k calls) in
    or_assoc a (has_target_in b so_far) (lies_in b to)
    ∙ ap (λ o. a || (has_target_in b so_far || lies_in b o)) (sym is)
    ∙ ap (λ x. a || x) (sym (ap (has_target_in b) (map_more task_of calls k d within) ∙ target-more b so_far (task_of (get_or calls k d))))

-- ---- a job with a target that a job reads is among the suspects

pub not_true : (b : Bool) → (b ≡ true → ⊥) → b ≡ false
not_true true no_way = absurd (no_way refl)
not_true false no_way = refl

either : {Q : Type 0} (a b : Bool) → (a || b) ≡ true → (a ≡ true → Q) → (b ≡ true → Q) → Q
either true b e left right = left refl
either false b e left right = right e

pub first_true : (a b : Bool) → a ≡ true → (a || b) ≡ true
first_true a b e = ap (λ x. x || b) e

pub second_true : (a b : Bool) → b ≡ true → (a || b) ≡ true
second_true a b e = ap (λ x. a || x) e ∙ or_true a

pub one_name : (n k : Name) → same_name n k ≡ true → n ≡ k
one_name n k e = (slice_eq-Decides Decides-eqb n k (same_name n k) refl).0 e

held_name : (rows : List ℕ) (i : ℕ) (n : Name) (names : List Name) → is_in (get_or rows (bucket_of n) 0) i ≡ true → list_any (same_name n) names ≡ true → is_held rows i names ≡ true
held_name rows i n [] held among = absurd cc
held_name rows i n (k ∷ names) held among = either (same_name n k) (list_any (same_name n) names) among
    (λ e. first_true (is_in (get_or rows (bucket_of k) 0) i) (is_held rows i names) (ap (λ (m : Name). is_in (get_or rows (bucket_of m) 0) i) (sym (one_name n k e)) ∙ held))
    (λ e. second_true (is_in (get_or rows (bucket_of k) 0) i) (is_held rows i names) (held_name rows i n names held e))

abbrev HoldsTarget : List ℕ → ℕ → Option Name → Type 0
HoldsTarget rows i to = (b : ℕ) → lies_in b to ≡ true → is_in (get_or rows b 0) i ≡ true

held_names : (rows : List ℕ) (i : ℕ) (to : Option Name) (names : List Name) → HoldsTarget rows i to → is_among to names ≡ true → is_held rows i names ≡ true
held_names rows i None names holds among = absurd cc
held_names rows i (Some n) names holds among = held_name rows i n names (holds (bucket_of n) (eq-eqb (bucket_of n) (bucket_of n) refl)) among

suspect_call : (rows : List ℕ) (i : ℕ) (t : Task) (job : List Task) → HoldsTarget rows i (target t) → list_any (clashes t) job ≡ true → is_suspect rows i job ≡ true
suspect_call rows i t [] holds clash = absurd cc
suspect_call rows i t (u ∷ job) holds clash = either (clashes t u) (list_any (clashes t) job) clash
    (λ e. first_true (is_held rows i (reads u)) (is_suspect rows i job) (held_names rows i (target t) (reads u) holds e))
    (λ e. second_true (is_held rows i (reads u)) (is_suspect rows i job) (suspect_call rows i t job holds e))

suspect_job : (rows : List ℕ) (i : ℕ) (earlier job : List Task) → ((b : ℕ) → has_target_in b earlier ≡ true → is_in (get_or rows b 0) i ≡ true) → jobs_clash earlier job ≡ true → is_suspect rows i job ≡ true
suspect_job rows i [] job holds clash = absurd cc
suspect_job rows i (t ∷ earlier) job holds clash = either (list_any (clashes t) job) (jobs_clash earlier job) clash
    (λ e. suspect_call rows i t job (λ b lies. holds b (first_true (lies_in b (target t)) (has_target_in b earlier) lies)) e)
    (λ e. suspect_job rows i earlier job (λ b has. holds b (second_true (lies_in b (target t)) (has_target_in b earlier) has)) e)

-- ---- which waves are barred

guarded : (a c x : Bool) → (x ≡ true → a ≡ true) → (a && (c && x)) ≡ (c && x)
guarded true c x found = refl
guarded false c true found = absurd (let e = found refl in cc)
guarded false true false found = refl
guarded false false false found = refl

barred_by : (i places : ℕ) (ws : List ℕ) (rs : List Request) (d : Request) (job : List Task) (w : ℕ) → i ≤ length ws → i ≤ length rs
    → ((k : ℕ) → k < i → jobs_clash (job_at (map asked rs) k) job ≡ true → is_in places k ≡ true)
    → bars_among places (map asked rs) ws job w i ≡ is_barred (placed i ws rs) job w
barred_by zero places ws rs d job w few within found = refl
barred_by (suc i) places ws rs d job w few within found =
    let jobs : List (List Task) = map asked rs in
    let more : placed (suc i) ws rs ≡ placed i ws rs ++ (get_or ws i 0, asked (get_or rs i d)) ∷ [] = ap (λ k. placed k ws rs) (sym (add-one i)) ∙ placed-more i ws rs d (omega arith) (omega arith) in
    let its : job_at jobs i ≡ asked (get_or rs i d) = get_or-map asked rs i d [] (omega arith) in
    ap (λ b. bars_among places jobs ws job w i || b) (guarded (is_in places i) (get_or ws i 0 == w) (jobs_clash (job_at jobs i) job) (found i (omega arith)))
    ∙ ap (λ b. b || (get_or ws i 0 == w && jobs_clash (job_at jobs i) job)) (barred_by i places ws rs d job w (omega arith) (omega arith) (λ k lt. found k (omega arith)))
    ∙ ap (λ (j : List Task). is_barred (placed i ws rs) job w || (get_or ws i 0 == w && jobs_clash j job)) its
    ∙ sym (ap (λ b. is_barred b job w) more ∙ barred-push (placed i ws rs) (get_or ws i 0, asked (get_or rs i d)) job w)

barred_found : (i places : ℕ) (ws : List ℕ) (rs : List Request) (job : List Task) (w : ℕ) → i ≤ length ws → i ≤ length rs
    → ((k : ℕ) → k < i → jobs_clash (job_at (map asked rs) k) job ≡ true → is_in places k ≡ true)
    → bars_among places (map asked rs) ws job w i ≡ is_barred (placed i ws rs) job w
barred_found i places ws [] job w few within found =
    let none : i ≡ 0 = omega arith in
    subst (λ (k : ℕ). bars_among places [] ws job w k ≡ is_barred (placed k ws []) job w) (sym none) refl
barred_found i places ws (r ∷ rs) job w few within found = barred_by i places ws (r ∷ rs) r job w few within found

pub barred-suspects : (plan : BlockPlan) (rs : List Request) (i places : ℕ) (job : List Task) (w : ℕ) → IsBlockPlan plan (map asked rs) i → i ≤ length plan.waves → i ≤ length rs
    → ((k : ℕ) → is_in places k ≡ is_suspect plan.holders k job)
    → bars_among places (map asked rs) plan.waves job w i ≡ is_barred (placed i plan.waves rs) job w
barred-suspects plan rs i places job w is few within suspects = barred_found i places plan.waves rs job w few within
    (λ k lt clash. suspects k ∙ suspect_job plan.holders k (job_at (map asked rs) k) job (λ b has. is.held b k lt ∙ has) clash)

none_held : (rows : List ℕ) (i : ℕ) (names : List Name) → ((b : ℕ) → is_in (get_or rows b 0) i ≡ false) → is_held rows i names ≡ false
none_held rows i [] none = refl
none_held rows i (n ∷ names) none = ap (λ b. b || is_held rows i names) (none (bucket_of n)) ∙ none_held rows i names none

pub none-suspect : (rows : List ℕ) (i : ℕ) (job : List Task) → ((b : ℕ) → is_in (get_or rows b 0) i ≡ false) → is_suspect rows i job ≡ false
none-suspect rows i [] none = refl
none-suspect rows i (t ∷ job) none = ap (λ b. b || is_suspect rows i job) (none_held rows i (reads t) none) ∙ none-suspect rows i job none

-- ---- one place after the other

pub bars-none : (jobs : List (List Task)) (ws : List ℕ) (job : List Task) (w i : ℕ) → bars_among 0 jobs ws job w i ≡ false
bars-none jobs ws job w zero = refl
bars-none jobs ws job w (suc i) =
    ap (λ b. b || (is_in 0 i && (get_or ws i 0 == w && jobs_clash (job_at jobs i) job))) (bars-none jobs ws job w i)
    ∙ ap (λ b. b && (get_or ws i 0 == w && jobs_clash (job_at jobs i) job)) (is_in-zero i)

same_bars : (a b : ℕ) (jobs : List (List Task)) (ws : List ℕ) (job : List Task) (w i : ℕ) → ((k : ℕ) → k < i → is_in a k ≡ is_in b k) → bars_among a jobs ws job w i ≡ bars_among b jobs ws job w i
same_bars a b jobs ws job w zero same = refl
same_bars a b jobs ws job w (suc i) same =
    ap (λ x. x || (is_in a i && (get_or ws i 0 == w && jobs_clash (job_at jobs i) job))) (same_bars a b jobs ws job w i (λ k lt. same k (omega arith)))
    ∙ ap (λ x. bars_among b jobs ws job w i || (x && (get_or ws i 0 == w && jobs_clash (job_at jobs i) job))) (same i (omega arith))

swap : (a x y : Bool) → ((a || x) || y) ≡ ((a || y) || x)
swap true x y = refl
swap false true true = refl
swap false true false = refl
swap false false true = refl
swap false false false = refl

pub bars-step : (left rest place : ℕ) (jobs : List (List Task)) (ws : List ℕ) (job : List Task) (w i : ℕ) → place < i → i ≤ 64
    → is_in left place ≡ true → is_in rest place ≡ false → ((k : ℕ) → k < 64 → k ≢ place → is_in rest k ≡ is_in left k)
    → bars_among left jobs ws job w i ≡ (bars_among rest jobs ws job w i || (get_or ws place 0 == w && jobs_clash (job_at jobs place) job))
bars-step left rest place jobs ws job w zero lt few here gone others = absurd (omega arith)
bars-step left rest place jobs ws job w (suc i) lt few here gone others = dite (ℕ_discrete place i)
    (λ is. last (subst (λ (k : ℕ). is_in left k ≡ true) is here) (subst (λ (k : ℕ). is_in rest k ≡ false) is gone) is)
    (λ other. ap (λ x. x || (is_in left i && (get_or ws i 0 == w && jobs_clash (job_at jobs i) job)))
    (bars-step left rest place jobs ws job w i (omega arith) (omega arith) here gone others)
    ∙ ap (λ x. (bars_among rest jobs ws job w i || (get_or ws place 0 == w && jobs_clash (job_at jobs place) job)) || (x && (get_or ws i 0 == w && jobs_clash (job_at jobs i) job)))
    (sym (others i (omega arith) (λ e. other (sym e))))
    ∙ swap (bars_among rest jobs ws job w i) (get_or ws place 0 == w && jobs_clash (job_at jobs place) job) (is_in rest i && (get_or ws i 0 == w && jobs_clash (job_at jobs i) job)))
  where
    last : is_in left i ≡ true → is_in rest i ≡ false → place ≡ i
        → bars_among left jobs ws job w (suc i) ≡ (bars_among rest jobs ws job w (suc i) || (get_or ws place 0 == w && jobs_clash (job_at jobs place) job))
    last in_left in_rest is =
        ap (λ x. x || (is_in left i && (get_or ws i 0 == w && jobs_clash (job_at jobs i) job)))
        (same_bars left rest jobs ws job w i (λ k below. sym (others k (omega arith) (λ e. absurd (omega arith)))))
        ∙ ap (λ x. bars_among rest jobs ws job w i || (x && (get_or ws i 0 == w && jobs_clash (job_at jobs i) job))) in_left
        ∙ ap (λ x. x || (get_or ws i 0 == w && jobs_clash (job_at jobs i) job)) (sym (or_false (bars_among rest jobs ws job w i)))
        ∙ ap (λ x. (bars_among rest jobs ws job w i || (x && (get_or ws i 0 == w && jobs_clash (job_at jobs i) job))) || (get_or ws i 0 == w && jobs_clash (job_at jobs i) job)) (sym in_rest)
        ∙ ap (λ (k : ℕ). bars_among rest jobs ws job w (suc i) || (get_or ws k 0 == w && jobs_clash (job_at jobs k) job)) (sym is)

-- a number whose ones are at places below has its lowest there
pub lowest-below : (n count : ℕ) → 0 < n → n < 2 ^ 64 → ((i : ℕ) → count ≤ i → is_in n i ≡ false) → trailing_zeros w64 n < count
lowest-below n count some fits behind = elim (cases_lt (trailing_zeros w64 n) count) [
  | inl lt ↦ lt
  | inr ge ↦ let no : true ≡ false = sym (lowest-in n some fits).1 ∙ behind (trailing_zeros w64 n) ge in absurd cc
]

-- the places without the lowest
abbrev pub rest_of : ℕ → ℕ
rest_of n = bit_and n (bit_not w64 (1 * 2 ^ trailing_zeros w64 n % 2 ^ 64))

pub rest-less : (n : ℕ) → 0 < n → n < 2 ^ 64 → rest_of n < n
rest-less n some fits = let low = lowest-in n some fits in clear-less n (trailing_zeros w64 n) low.0 low.1

pub rest-bars : (n : ℕ) (jobs : List (List Task)) (ws : List ℕ) (job : List Task) (w count : ℕ) → 0 < n → n < 2 ^ 64 → count ≤ 64 → ((i : ℕ) → count ≤ i → is_in n i ≡ false)
    → bars_among n jobs ws job w count ≡ (bars_among (rest_of n) jobs ws job w count || (get_or ws (trailing_zeros w64 n) 0 == w && jobs_clash (job_at jobs (trailing_zeros w64 n)) job))
rest-bars n jobs ws job w count some fits few behind =
    let low = lowest-in n some fits in
    bars-step n (rest_of n) (trailing_zeros w64 n) jobs ws job w count (lowest-below n count some fits behind) few low.1
    (is_in-clear_same n (trailing_zeros w64 n) low.0) (λ k lt other. is_in-clear_other n (trailing_zeros w64 n) k low.0 lt other)

-- the wave is barred where it was not, or it was barred already
pub barred-set : (bs : List Bool) (v w : ℕ) (x : Bool) → v < length bs → get_or bs v false ≡ false → get_or (set bs v x) w false ≡ (get_or bs w false || (v == w && x))
barred-set bs v w x within free = dite (ℕ_discrete w v)
    (λ is. get_or-set_at bs v w x false is within
    ∙ sym (ap (λ (k : ℕ). get_or bs k false || (v == w && x)) is ∙ ap (λ b. b || (v == w && x)) free ∙ ap (λ b. b && x) (eq-eqb v w (sym is))))
    (λ other. get_or-set_other bs v w x false other
    ∙ sym (ap (λ b. get_or bs w false || (b && x)) (ne_eqb v w (λ e. other (sym e))) ∙ or_false (get_or bs w false)))

pub barred-kept : (bs : List Bool) (v w : ℕ) (x : Bool) → get_or bs v false ≡ true → get_or bs w false ≡ (get_or bs w false || (v == w && x))
barred-kept bs v w x barred = dite (ℕ_discrete w v)
    (λ is. let now : get_or bs w false ≡ true = ap (λ (k : ℕ). get_or bs k false) is ∙ barred in now ∙ sym (ap (λ b. b || (v == w && x)) now))
    (λ other. sym (ap (λ b. get_or bs w false || (b && x)) (ne_eqb v w (λ e. other (sym e))) ∙ or_false (get_or bs w false)))

regroup : (a y r : Bool) → ((a || y) || r) ≡ (a || (r || y))
regroup true y r = refl
regroup false true true = refl
regroup false true false = refl
regroup false false true = refl
regroup false false false = refl

pub barred-more : (new old y rest left all : Bool) → new ≡ (old || y) → left ≡ (rest || y) → (old || left) ≡ all → (new || rest) ≡ all
barred-more new old y rest left all is more so_far = ap (λ b. b || rest) is ∙ regroup old y rest ∙ ap (λ b. old || b) (sym more) ∙ so_far

-- ---- a plan of nothing

pub get_or-filled : {A : Type 0} (n v : ℕ) (a : A) → get_or (replicate n a) v a ≡ a
get_or-filled zero v a = refl
get_or-filled (suc n) zero a = refl
get_or-filled (suc n) (suc v) a = get_or-filled n v a

pub empty-block_plan : (plan : BlockPlan) (jobs : List (List Task)) → plan.waves ≡ replicate 64 0 → plan.holders ≡ replicate 256 0 → IsBlockPlan plan jobs 0
empty-block_plan plan jobs waves holders = record {
  few_waves = λ p. let none : get_or plan.waves p 0 ≡ 0 = ap (λ (l : List ℕ). get_or l p 0) waves ∙ get_or-filled 64 p 0 in omega arith;
  held = λ b p lt. absurd (omega arith);
  none_behind = λ b p le. ap (λ (l : List ℕ). is_in (get_or l b 0) p) holders ∙ ap (λ (n : ℕ). is_in n p) (get_or-filled 256 b 0) ∙ is_in-zero p;
}

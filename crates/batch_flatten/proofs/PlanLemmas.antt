-- The chains of single calls: of those whose target is a name none is passed over (`bars-last`), and one more of the chain bars its
-- wave (`bar-step`). What the names of a call bar is what is barred to the call (`barred-names`). A plan of nothing is one
-- (`empty-plan`).
use Rattle.std.proofs.Common.{◌≡◌, ◌==◌, ℕ, zero, suc, ◌+◌, ◌<◌, ◌≤◌, Bool, true, false, cond, ◌&&◌, ◌||◌, List, [], ◌∷◌, ◌++◌, length, Option, Some, None, refl, sym, ap, ◌∙◌, subst, arith, add-one, ne_eqb, eq-eqb, slice_index, set, get_or, replicate}
use Rattle.std.specs.List.{list_any}
use Rattle.std.proofs.lemmas.Grind.{get_or-set_at}
use Rattle.std.proofs.lemmas.List.{get_or-map, get_or-set_other, get_or_default}
use mathlib.Core.Logic.{dite}
use native.Mathlib.Decide.{ℕ_discrete}
use Rattle.vector_memory.specs.Names.{bucket_of}
use Rattle.vector_memory.specs.declared.name.Name.{Name}
use Rattle.cvl_text.specs.Tasks.{Task, reads, task_of}
use Rattle.call_history.specs.declared.request.Job.{Job}
use Rattle.call_history.specs.declared.request.Job.TheVariants.{One, Many}
use Rattle.call_history.specs.declared.request.Request.{Request}
use Rattle.batch_flatten.specs.declared.plan.Plan.{Plan}
use Rattle.batch_flatten.specs.Waves.{asked, clashes, is_among, is_barred, jobs_clash, tasks_of}
use Rattle.batch_flatten.specs.Targets.{is_target, last_in, lies_in, target_at}
use Rattle.batch_flatten.specs.Plans.{AreSingle, IsPlan, bars, is_single, placed, single_target, single_targets}
use Rattle.batch_flatten.proofs.WaveLemmas.{barred-push, placed-more}
pub use Rattle.batch_flatten.proofs.BlockLemmas.{get_or-filled}
use Rattle.batch_flatten.proofs.BlockLemmas.{or_false}
use Rattle.batch_flatten.proofs.TargetLemmas.{any_either, any_false, other_target}

nothing_more : (a c : Bool) → (a || (c && false)) ≡ a
nothing_more true c = refl
nothing_more false true = refl
nothing_more false false = refl

pub bars-last : (ts : List (Option Name)) (ws : List ℕ) (n : Name) (w i : ℕ) → bars ts ws n w i ≡ bars ts ws n w (last_in (target_at ts) (bucket_of n) i)
bars-last ts ws n w zero = refl
bars-last ts ws n w (suc i) = by (lies_in (bucket_of n) (target_at ts i)) refl (bars-last ts ws n w i)
  where
    by : (b : Bool) → lies_in (bucket_of n) (target_at ts i) ≡ b → bars ts ws n w i ≡ bars ts ws n w (last_in (target_at ts) (bucket_of n) i)
        → (bars ts ws n w i || (slice_index ws i == w && is_target n (target_at ts i))) ≡ bars ts ws n w (cond b (suc i) (last_in (target_at ts) (bucket_of n) i))
    by true lies rest = refl
    by false lies rest =
        ap (λ x. bars ts ws n w i || (slice_index ws i == w && x)) (other_target n (target_at ts i) lies)
        ∙ nothing_more (bars ts ws n w i) (slice_index ws i == w) ∙ rest

swap : (a x b : Bool) → ((a || x) || b) ≡ (a || (b || x))
swap true x b = refl
swap false true true = refl
swap false true false = refl
swap false false true = refl
swap false false false = refl

step_at : (bs : List Bool) (ts : List (Option Name)) (ws : List ℕ) (n : Name) (w j : ℕ) → get_or ws j 0 < length bs
    → (get_or (set bs (get_or ws j 0) (get_or bs (get_or ws j 0) false || is_target n (target_at ts j))) w false || bars ts ws n w j) ≡ (get_or bs w false || bars ts ws n w (suc j))
step_at bs ts ws n w j within = dite (ℕ_discrete w (get_or ws j 0))
    (λ is. ap (λ x. x || bars ts ws n w j) (get_or-set_at bs (get_or ws j 0) w (get_or bs (get_or ws j 0) false || is_target n (target_at ts j)) false is within)
    ∙ swap (get_or bs (get_or ws j 0) false) (is_target n (target_at ts j)) (bars ts ws n w j)
    ∙ ap (λ (k : ℕ). get_or bs k false || (bars ts ws n w j || is_target n (target_at ts j))) (sym is)
    ∙ ap (λ x. get_or bs w false || (bars ts ws n w j || (x && is_target n (target_at ts j)))) (sym (eq-eqb (get_or ws j 0) w (sym is))))
    (λ other. ap (λ x. x || bars ts ws n w j) (get_or-set_other bs (get_or ws j 0) w (get_or bs (get_or ws j 0) false || is_target n (target_at ts j)) false other)
    ∙ ap (λ x. get_or bs w false || x) (sym (or_false (bars ts ws n w j)))
    ∙ ap (λ x. get_or bs w false || (bars ts ws n w j || (x && is_target n (target_at ts j)))) (sym (ne_eqb (get_or ws j 0) w (λ e. other (sym e)))))

pub bar-step : (bs : List Bool) (ts : List (Option Name)) (ws : List ℕ) (n : Name) (w j v : ℕ) (x : Bool) → v ≡ get_or ws j 0 → x ≡ is_target n (target_at ts j) → get_or ws j 0 < length bs
    → (get_or (set bs v (get_or bs v false || x)) w false || bars ts ws n w j) ≡ (get_or bs w false || bars ts ws n w (suc j))
bar-step bs ts ws n w j v x its_wave hit within =
    ap (λ (k : ℕ). get_or (set bs k (get_or bs k false || x)) w false || bars ts ws n w j) its_wave
    ∙ ap (λ y. get_or (set bs (get_or ws j 0) (get_or bs (get_or ws j 0) false || y)) w false || bars ts ws n w j) hit
    ∙ step_at bs ts ws n w j within

any_among : (c : Bool) (to : Option Name) (names : List Name) → list_any (λ n. c && is_target n to) names ≡ (c && is_among to names)
any_among true None names = any_false names
any_among true (Some to) names = refl
any_among false to names = any_false names

single-clash : (job : Job) (t : Task) → is_single job ≡ true → jobs_clash (tasks_of job) (t ∷ []) ≡ is_among (single_target job) (reads t)
single-clash (One call) t single = or_false (clashes (task_of call) t || false) ∙ or_false (clashes (task_of call) t)
single-clash (Many calls) t single = absurd cc

barred-by : (i : ℕ) (ws : List ℕ) (rs : List Request) (d : Request) (t : Task) (w : ℕ) → i ≤ length ws → i ≤ length rs → AreSingle rs i
    → is_barred (placed i ws rs) (t ∷ []) w ≡ list_any (λ n. bars (single_targets rs) ws n w i) (reads t)
barred-by zero ws rs d t w few within single = sym (any_false (reads t))
barred-by (suc i) ws rs d t w few within single =
    let ts : List (Option Name) = single_targets rs in
    let r : Request = get_or rs i d in
    let more : placed (suc i) ws rs ≡ placed i ws rs ++ (get_or ws i 0, asked r) ∷ [] = ap (λ k. placed k ws rs) (sym (add-one i)) ∙ placed-more i ws rs d (omega arith) (omega arith) in
    let to : target_at ts i ≡ single_target r.job = get_or-map (λ (q : Request). single_target q.job) rs i d None (omega arith) in
    ap (λ b. is_barred b (t ∷ []) w) more ∙ barred-push (placed i ws rs) (get_or ws i 0, asked r) (t ∷ []) w
    ∙ ap (λ b. b || (get_or ws i 0 == w && jobs_clash (asked r) (t ∷ []))) (barred-by i ws rs d t w (omega arith) (omega arith) (λ p q lt. single p q (omega arith)))
    ∙ ap (λ b. list_any (λ n. bars ts ws n w i) (reads t) || (get_or ws i 0 == w && b)) (single-clash r.job t (single i d (omega arith)))
    ∙ sym (any_either (λ n. bars ts ws n w i) (λ n. get_or ws i 0 == w && is_target n (target_at ts i)) (reads t)
    ∙ ap (λ b. list_any (λ n. bars ts ws n w i) (reads t) || b) (any_among (get_or ws i 0 == w) (target_at ts i) (reads t) ∙ ap (λ o. get_or ws i 0 == w && is_among o (reads t)) to))

pub barred-names : (i : ℕ) (ws : List ℕ) (rs : List Request) (t : Task) (w : ℕ) → i ≤ length ws → i ≤ length rs → AreSingle rs i
    → is_barred (placed i ws rs) (t ∷ []) w ≡ list_any (λ n. bars (single_targets rs) ws n w i) (reads t)
barred-names i ws [] t w few within single =
    let none : i ≡ 0 = omega arith in
    subst (λ (k : ℕ). is_barred (placed k ws []) (t ∷ []) w ≡ list_any (λ n. bars (single_targets []) ws n w k) (reads t)) (sym none) (sym (any_false (reads t)))
barred-names i ws (r ∷ rs) t w few within single = barred-by i ws (r ∷ rs) r t w few within single

-- one more request is for a single call
pub single-more : (rs : List Request) (i : ℕ) (d : Request) → i < length rs → AreSingle rs i → is_single (get_or rs i d).job ≡ true → AreSingle rs (i + 1)
single-more rs i d within so_far one p r lt = dite (ℕ_discrete p i)
    (λ is. ap (λ (k : ℕ). is_single (get_or rs k r).job) is ∙ ap (λ (q : Request). is_single q.job) (get_or_default rs i r d within) ∙ one)
    (λ other. so_far p r (omega arith))

pub empty-plan : (plan : Plan) (ts : List (Option Name)) → plan.waves ≡ replicate 64 0 → plan.last ≡ replicate 256 0 → IsPlan plan ts 0
empty-plan plan ts waves last = record {
  few_waves = λ p. let none : get_or plan.waves p 0 ≡ 0 = ap (λ (l : List ℕ). get_or l p 0) waves ∙ get_or-filled 64 p 0 in omega arith;
  last = λ b lt. ap (λ (l : List ℕ). get_or l b 0) last ∙ get_or-filled 256 b 0;
  before = λ p b lt lies. absurd (omega arith);
}

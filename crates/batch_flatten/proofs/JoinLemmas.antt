-- Calls of a wave that are joined: positions that close (`closed-more`), and a group that grows (`group-push`).
use Rattle.std.proofs.Common.{◌≡◌, ◌≢◌, ◌⊎◌, ⊎_elim, inl, inr, ℕ, zero, suc, ◌+◌, ◌<◌, ◌≤◌, All, Bool, true, List, [], ◌∷◌, ◌++◌, length, map, take, Option, Some, None, Result, Ok, refl, sym, ap, ◌∙◌, subst, arith, slice_get, slice_index, set}
use Rattle.std.proofs.lemmas.List.{get_or_append_left, get_or_push, length-map, length_push, map_push, same_from_push, take_more, take_more_set}
use Rattle.std.proofs.lemmas.List.Elements.{All-push}
use Rattle.std.proofs.lemmas.Simd.{map-map}
use mathlib.Core.Logic.{dite}
use native.Mathlib.Decide.{ℕ_discrete}
use Rattle.vector_memory.specs.States.{State}
use Rattle.cvl_text.specs.declared.fault.Fault.{Fault}
use Rattle.cvl_text.specs.declared.word.Word.{Word}
use Rattle.cvl_calls.specs.declared.judged.Judged.{Judged}
use Rattle.cvl_calls.specs.Judging.{IsReady, made, word_of}
use Rattle.cvl_calls.specs.declared.product.Product.{Product}
use Rattle.cvl_calls.specs.Outcomes.{Effect, effect_of}
use Rattle.cvl_calls.specs.Runs.{runs_kernel}
use Rattle.call_history.specs.declared.request.Outcome.{Outcome}
use Rattle.call_history.specs.declared.request.Outcome.TheVariants.{Answered, Refused, AnsweredBlock, RefusedBlock}
use Rattle.call_history.specs.declared.work.Work.{Work}
use Rattle.call_history.specs.Works.{IsWork}
use Rattle.batch_flatten.specs.declared.turn.Turn.{Turn}
use Rattle.batch_flatten.specs.declared.turn.Turn.TheVariants.{Open, Single, Faulty, Joined}
use Rattle.batch_flatten.specs.Joining.{ArePrepared, AreWords, ClosesOnly, IsClosed, IsGroup, IsNoted, IsOfWord, IsPrepared, work_at, work_back, word_at}
use Rattle.batch_flatten.proofs.PlaceLemmas.{place_in, slice_get-set_else, slice_get-set_here}

pub closed-more : (words : List Word) (word : Word) (turns : List Turn) (from to : ℕ) → ((slice_get turns to ≡ Some Open) × (word_at words to ≡ word) → ⊥) → IsClosed words word turns from to → IsClosed words word turns from (to + 1)
closed-more words word turns from to none closed b low high same is_open = dite (ℕ_discrete b to)
    (λ is. none (ap (slice_get turns) (sym is) ∙ is_open, ap (word_at words) (sym is) ∙ same))
    (λ other. closed b low (omega arith) same is_open)

module _ (m : State) (outcomes : List Outcome) (places : List ℕ) (words : List Word) (word : Word) (positions : List ℕ) (judged : List Judged) (n p : ℕ) (here : n ≡ length judged) (g : IsGroup m outcomes places words word positions judged) where
  -- one more judged call
  pub group-push : (j : Judged) (after : List Judged) (outcome : Outcome) → after ≡ judged ++ j ∷ [] → n < length positions → slice_get outcomes (slice_index places p) ≡ Some outcome → work_back m (Some outcome) ≡ Ok (made j) → IsReady j → word_of j ≡ word → word_at words p ≡ word
      → IsGroup m outcomes places words word (set positions n p) after
  group-push j after outcome is room there said ready same its =
      let long : length (judged ++ j ∷ []) ≡ n + 1 = length_push judged j ∙ ap (λ k. k + 1) (sym here) in
      let all : take (length (judged ++ j ∷ [])) (set positions n p) ≡ take (length judged) positions ++ p ∷ [] =
      ap (λ k. take k (set positions n p)) long ∙ take_more_set positions n p room ∙ ap (λ k. take k positions ++ p ∷ []) here in
      subst (IsGroup m outcomes places words word (set positions n p)) (sym is) (record {
        works = map_push (λ i. Ok (made i)) judged j
            ∙ ap (λ l. l ++ Ok (made j) ∷ []) g.works
            ∙ ap (λ w. map (work_at m outcomes places) (take (length judged) positions) ++ w ∷ []) (sym (ap (work_back m) there ∙ said))
            ∙ sym (map_push (work_at m outcomes places) (take (length judged) positions) p)
            ∙ ap (map (work_at m outcomes places)) (sym all);
        ready = All-push IsReady judged j g.ready ready;
        alike = All-push (λ i. word_of i ≡ word) judged j g.alike same;
        placed = subst (All (λ b. word_at words b ≡ word)) (sym all) (All-push (λ b. word_at words b ≡ word) (take (length judged) positions) p g.placed its);
      })

pub group-none : (m : State) (outcomes : List Outcome) (places : List ℕ) (words : List Word) (word : Word) (positions : List ℕ) (judged : List Judged) → judged ≡ [] → IsGroup m outcomes places words word positions judged
group-none m outcomes places words word positions judged is = subst (IsGroup m outcomes places words word positions) (sym is) (record {
  works = refl;
  ready = λ k d lt. absurd (omega arith);
  alike = λ k d lt. absurd (omega arith);
  placed = λ k d lt. absurd (omega arith);
})

pub of-word : (words : List Word) (outcomes : List Outcome) (places : List ℕ) (b : ℕ) (word : Word) (o : Outcome) → AreWords words outcomes places → b < length places → slice_get outcomes (slice_index places b) ≡ Some o → word_at words b ≡ word → IsOfWord word o
of-word words outcomes places b word (Refused c) are lt there is = sym (are b c lt there) ∙ is
of-word words outcomes places b word (Answered place reply) are lt there is = tt
of-word words outcomes places b word (AnsweredBlock place replies) are lt there is = tt
of-word words outcomes places b word (RefusedBlock calls) are lt there is = tt

-- an open position of the word that is noted closes, and no other
pub noted-closes : (words : List Word) (word : Word) (old new : List Turn) (p : ℕ) (t : Turn) → new ≡ set old p t → (slice_get old p ≡ Some Open) × (word_at words p ≡ word) → ClosesOnly words word old new
noted-closes words word old new p t is was = subst (ClosesOnly words word old) (sym is) (record { opens = opens; others = others })
  where
    opens : (b : ℕ) → slice_get (set old p t) b ≡ Some Open → slice_get old b ≡ Some Open
    opens b now = dite (ℕ_discrete b p) (λ same. ap (slice_get old) same ∙ was.0) (λ other. sym (slice_get-set_else old p b t other) ∙ now)

    others : (b : ℕ) → word_at words b ≢ word → slice_get (set old p t) b ≡ slice_get old b
    others b apart = slice_get-set_else old p b t (λ same. apart (ap (word_at words) same ∙ was.1))

noted-shut : (said : Result Effect Fault) (t : Turn) → IsNoted said t → t ≡ Open → ⊥
noted-shut said Open noted is = noted
noted-shut said Single noted is = cc
noted-shut said (Faulty f) noted is = cc
noted-shut said Joined noted is = noted

some_turn : (a b : Turn) → ◌≡◌ {A = Option Turn} (Some a) (Some b) → a ≡ b
some_turn a b e = cc

pub noted-closed : (said : Result Effect Fault) (words : List Word) (word : Word) (old new : List Turn) (p : ℕ) (t : Turn) → new ≡ set old p t → slice_get old p ≡ Some Open → IsNoted said t → (slice_get new p ≡ Some Open) × (word_at words p ≡ word) → ⊥
noted-closed said words word old new p t is was noted now =
    noted-shut said t noted (some_turn t Open (sym (slice_get-set_here old p Open t was) ∙ ap (λ l. slice_get l p) (sym is) ∙ now.0))

noted-prepared : (kernel : Bool) (said : Result Effect Fault) (t : Turn) (slot : Option (Option Work)) → kernel ≡ true → IsNoted said t → IsPrepared kernel said (Some t) slot
noted-prepared kernel said Open slot runs noted = absurd noted
noted-prepared kernel said Single slot runs noted = runs
noted-prepared kernel said (Faulty f) slot runs noted = (runs, noted)
noted-prepared kernel said Joined slot runs noted = absurd noted

pub noted-keeps : (m : State) (outcomes : List Outcome) (places : List ℕ) (words : List Word) (word : Word) (old new : List Turn) (p : ℕ) (t : Turn) (o : Outcome) → new ≡ set old p t → (slice_get old p ≡ Some Open) × (word_at words p ≡ word)
    → slice_get outcomes (slice_index places p) ≡ Some o → runs_kernel word ≡ true → IsNoted (work_back m (Some o)) t
    → (works : List (Option Work)) (first : ℕ) → ArePrepared m outcomes places words old works first → ArePrepared m outcomes places words new works first
noted-keeps m outcomes places words word old new p t o is was there runs noted works first prepared b low high =
    subst (λ l. IsPrepared (runs_kernel (word_at words b)) (work_at m outcomes places b) (slice_get l b) (slice_get works b)) (sym is)
    (dite (ℕ_discrete b p)
    (λ same. subst (λ (k : ℕ). IsPrepared (runs_kernel (word_at words k)) (work_at m outcomes places k) (slice_get (set old p t) k) (slice_get works k)) (sym same)
    (subst (λ q. IsPrepared (runs_kernel (word_at words p)) (work_at m outcomes places p) q (slice_get works p)) (sym (slice_get-set_here old p Open t was.0))
    (subst (λ q. IsPrepared (runs_kernel (word_at words p)) (work_back m q) (Some t) (slice_get works p)) (sym there)
    (noted-prepared (runs_kernel (word_at words p)) (work_back m (Some o)) t (slice_get works p) (ap runs_kernel was.1 ∙ runs) noted))))
    (λ other. subst (λ q. IsPrepared (runs_kernel (word_at words b)) (work_at m outcomes places b) q (slice_get works b)) (sym (slice_get-set_else old p b t other)) (prepared b low high)))

pub closes-same : (words : List Word) (word : Word) (turns : List Turn) → ClosesOnly words word turns turns
closes-same words word turns = record { opens = λ b now. now; others = λ b apart. refl }

pub closes-both : (words : List Word) (word : Word) (old mid new : List Turn) → ClosesOnly words word old mid → ClosesOnly words word mid new → ClosesOnly words word old new
closes-both words word old mid new one two = record { opens = λ b now. one.opens b (two.opens b now); others = λ b apart. two.others b apart ∙ one.others b apart }

-- what was closed stays so
pub closed-kept : (words : List Word) (word : Word) (old new : List Turn) (from to : ℕ) → ClosesOnly words word old new → IsClosed words word old from to → IsClosed words word new from to
closed-kept words word old new from to closes closed b low high same is_open = closed b low high same (closes.opens b is_open)

set-cases : {X : Type 0} (xs : List X) (p b : ℕ) (y : X) → (slice_get (set xs p y) b ≡ slice_get xs b) ⊎ (slice_get (set xs p y) b ≡ Some y)
set-cases [] p b y = inl refl
set-cases (x ∷ xs) zero zero y = inr refl
set-cases (x ∷ xs) zero (suc b) y = inl refl
set-cases (x ∷ xs) (suc p) zero y = inl refl
set-cases (x ∷ xs) (suc p) (suc b) y = set-cases xs p b y

-- a position of the word that is joined is open no more
pub joined-closes : (words : List Word) (word : Word) (old : List Turn) (p : ℕ) → word_at words p ≡ word → ClosesOnly words word old (set old p Joined)
joined-closes words word old p is = record { opens = opens; others = others }
  where
    opens : (b : ℕ) → slice_get (set old p Joined) b ≡ Some Open → slice_get old b ≡ Some Open
    opens b now = ⊎_elim (λ same. sym same ∙ now) (λ joined. let never : Joined ≡ Open = some_turn Joined Open (sym joined ∙ now) in absurd cc) (set-cases old p b Joined)

    others : (b : ℕ) → word_at words b ≢ word → slice_get (set old p Joined) b ≡ slice_get old b
    others b apart = slice_get-set_else old p b Joined (λ same. apart (ap (word_at words) same ∙ is))

-- the work of a position is noted
pub joined-keeps : (m : State) (outcomes : List Outcome) (places : List ℕ) (words : List Word) (old : List Turn) (works : List (Option Work)) (p : ℕ) (work : Work) (effect : Effect) (first : ℕ)
    → p < length old → p < length works → IsWork work (Ok effect) → Ok effect ≡ work_at m outcomes places p → runs_kernel (word_at words p) ≡ true
    → ArePrepared m outcomes places words old works first → ArePrepared m outcomes places words (set old p Joined) (set works p (Some work)) first
joined-keeps m outcomes places words old works p work effect first room space made said runs prepared b low high = dite (ℕ_discrete b p)
    (λ same. subst (λ (k : ℕ). IsPrepared (runs_kernel (word_at words k)) (work_at m outcomes places k) (slice_get (set old p Joined) k) (slice_get (set works p (Some work)) k)) (sym same) here)
    (λ other. subst (λ (z : Option Turn × (Option (Option Work))). IsPrepared (runs_kernel (word_at words b)) (work_at m outcomes places b) z.0 z.1)
    (λ i. (sym (slice_get-set_else old p b Joined other) i, sym (slice_get-set_else works p b (Some work) other) i)) (prepared b low high))
  where
    turn : slice_get (set old p Joined) p ≡ Some Joined
    turn = let was = place_in old p room in slice_get-set_here old p was.0 Joined was.1

    slot : slice_get (set works p (Some work)) p ≡ Some (Some work)
    slot = let was = place_in works p space in slice_get-set_here works p was.0 (Some work) was.1

    here : IsPrepared (runs_kernel (word_at words p)) (work_at m outcomes places p) (slice_get (set old p Joined) p) (slice_get (set works p (Some work)) p)
    here = subst (λ (z : Option Turn × (Option (Option Work))). IsPrepared (runs_kernel (word_at words p)) (work_at m outcomes places p) z.0 z.1) (λ i. (sym turn i, sym slot i)) (runs, subst (IsWork work) said made)

one-shorter : (positions : List ℕ) (all rest : List Product) (x : Product) → all ≡ rest ++ x ∷ [] → length all ≤ length positions → take (length all) positions ≡ take (length rest) positions ++ slice_index positions (length rest) ∷ []
one-shorter positions all rest x is few =
    let longer : length all ≡ length rest + 1 = ap length is ∙ length_push rest x in
    ap (λ k. take k positions) longer ∙ take_more positions (length rest) 0 (omega arith)

all-front : {X : Type 0} (P : X → Type 0) (xs : List X) (x : X) → All P (xs ++ x ∷ []) → All P xs × P x
all-front P xs x all =
    let long = length_push xs x in (
      λ k d lt. subst P (get_or_append_left xs (x ∷ []) d k lt) (all k d (omega arith)),
      subst P (get_or_push xs x x (length xs) refl) (all (length xs) x (omega arith)),
    )

-- the last of the products, and those before it: their positions are of the word
pub last-placed : (words : List Word) (word : Word) (positions : List ℕ) (all rest : List Product) (x : Product) → all ≡ rest ++ x ∷ [] → length all ≤ length positions
    → All (λ b. word_at words b ≡ word) (take (length all) positions) → All (λ b. word_at words b ≡ word) (take (length rest) positions) × (word_at words (slice_index positions (length rest)) ≡ word)
last-placed words word positions all rest x is few placed =
    all-front (λ b. word_at words b ≡ word) (take (length rest) positions) (slice_index positions (length rest)) (subst (All (λ b. word_at words b ≡ word)) (one-shorter positions all rest x is few) placed)

-- and they are what the calls there make
pub last-made : (m : State) (outcomes : List Outcome) (places positions : List ℕ) (all rest : List Product) (x : Product) → all ≡ rest ++ x ∷ [] → length all ≤ length positions
    → map (λ p. Ok (effect_of p)) all ≡ map (work_at m outcomes places) (take (length all) positions)
    → (map (λ p. Ok (effect_of p)) rest ≡ map (work_at m outcomes places) (take (length rest) positions)) × (Ok (effect_of x) ≡ work_at m outcomes places (slice_index positions (length rest)))
last-made m outcomes places positions all rest x is few same =
    same_from_push (map (λ p. Ok (effect_of p)) rest) (map (work_at m outcomes places) (take (length rest) positions)) (Ok (effect_of x)) (work_at m outcomes places (slice_index positions (length rest)))
    (sym (map_push (λ p. Ok (effect_of p)) rest x) ∙ ap (map (λ p. Ok (effect_of p))) (sym is) ∙ same ∙ ap (map (work_at m outcomes places)) (one-shorter positions all rest x is few)
    ∙ map_push (work_at m outcomes places) (take (length rest) positions) (slice_index positions (length rest)))

-- where there are more slots than before, and those are as they were
pub grown-keeps : (m : State) (outcomes : List Outcome) (places : List ℕ) (words : List Word) (turns : List Turn) (old new : List (Option Work)) (first : ℕ) → ((b : ℕ) (slot : Option Work) → slice_get old b ≡ Some slot → slice_get new b ≡ Some slot)
    → ArePrepared m outcomes places words turns old first → ArePrepared m outcomes places words turns new first
grown-keeps m outcomes places words turns old new first kept prepared b low high =
    by (slice_get turns b) (slice_get old b) (λ slot. kept b slot) (prepared b low high)
  where
    by : (turn : Option Turn) (was : Option (Option Work)) → ((slot : Option Work) → was ≡ Some slot → slice_get new b ≡ Some slot)
        → IsPrepared (runs_kernel (word_at words b)) (work_at m outcomes places b) turn was → IsPrepared (runs_kernel (word_at words b)) (work_at m outcomes places b) turn (slice_get new b)
    by None was stays is = tt
    by (Some Open) was stays is = tt
    by (Some Single) was stays is = is
    by (Some (Faulty f)) was stays is = is
    by (Some Joined) None stays is = absurd is
    by (Some Joined) (Some None) stays is = absurd is
    by (Some Joined) (Some (Some work)) stays is = subst (IsPrepared (runs_kernel (word_at words b)) (work_at m outcomes places b) (Some Joined)) (sym (stays (Some work) refl)) is

-- what a group's run made, by the positions of the group
pub group-made : (m : State) (outcomes : List Outcome) (places : List ℕ) (words : List Word) (word : Word) (positions : List ℕ) (judged now : List Judged) (products : List Product) → now ≡ judged → map effect_of products ≡ map made now
    → IsGroup m outcomes places words word positions judged
    → (length products ≡ length judged) × All (λ b. word_at words b ≡ word) (take (length products) positions) × (map (λ p. Ok (effect_of p)) products ≡ map (work_at m outcomes places) (take (length products) positions))
group-made m outcomes places words word positions judged now products is same g =
    let long : length products ≡ length judged = sym (length-map products effect_of) ∙ ap length (same ∙ ap (map made) is) ∙ length-map judged made in (
      long,
      subst (λ (n : ℕ). All (λ b. word_at words b ≡ word) (take n positions)) (sym long) g.placed,
      sym (map-map Ok effect_of products) ∙ ap (map Ok) (same ∙ ap (map made) is) ∙ map-map Ok made judged ∙ g.works ∙ ap (λ n. map (work_at m outcomes places) (take n positions)) (sym long),
    )

-- A list of requests grows by one of the next caller.
use Rattle.std.proofs.Common.{◌≡◌, ◌≢◌, ℕ, zero, suc, ◌+◌, ◌<◌, ◌≤◌, List, [], ◌∷◌, ◌++◌, length, sym, subst, arith, get_or}
use Rattle.std.specs.List.{AllByRecursion, AllPairs}
use Rattle.std.proofs.lemmas.List.Quantifiers.{all_pairs_push}
use Rattle.call_history.specs.declared.request.Request.{Request}
use Rattle.call_history.specs.Fits.{IsLawfulJob}
use Rattle.call_history.proofs.Serving.{lawful-push}

-- the callers are below this number
abbrev pub AreCallersBelow : ℕ → List Request → Type 0
AreCallersBelow n rs = AllByRecursion (λ r. r.caller < n) rs

pub below-more : (n m : ℕ) (rs : List Request) → n ≤ m → AreCallersBelow n rs → AreCallersBelow m rs
below-more n m [] le below = tt
below-more n m (r ∷ rs) le below = let first = below.0 in (omega arith, below-more n m rs le below.1)

below-push : (n : ℕ) (rs : List Request) (r : Request) → r.caller ≡ n → AreCallersBelow n rs → AreCallersBelow (n + 1) (rs ++ r ∷ [])
below-push n [] r is below = (omega arith, tt)
below-push n (q ∷ rs) r is below = let first = below.0 in (omega arith, below-push n rs r is below.1)

below-at : (n : ℕ) (rs : List Request) (k : ℕ) (d : Request) → k < length rs → AreCallersBelow n rs → (get_or rs k d).caller < n
below-at n [] k d lt below = absurd (omega arith)
below-at n (q ∷ rs) zero d lt below = below.0
below-at n (q ∷ rs) (suc k) d lt below = below-at n rs k d (omega arith) below.1

-- what they ask for may be asked for
abbrev pub AreLawful : List Request → Type 0
AreLawful rs = AllByRecursion (λ r. IsLawfulJob r.job) rs

-- no two requests are of one caller
abbrev pub AreDistinct : List Request → Type 0
AreDistinct rs = AllPairs (λ q s. q.caller ≢ s.caller) rs

pub distinct-none : AreDistinct []
distinct-none i j d lt within same = absurd (omega arith)

distinct-push : (n : ℕ) (rs : List Request) (r : Request) → r.caller ≡ n → AreCallersBelow n rs → AreDistinct rs → AreDistinct (rs ++ r ∷ [])
distinct-push n rs r is below distinct =
    all_pairs_push (λ q s. q.caller ≢ s.caller) rs r distinct (λ k d lt same. let low = below-at n rs k d lt below in absurd (omega arith))

-- one more request, of the next caller
pub asked-more : (n : ℕ) (rs new : List Request) (r : Request) → new ≡ rs ++ r ∷ [] → r.caller ≡ n → AreCallersBelow n rs → AreDistinct rs → AreLawful rs → IsLawfulJob r.job
    → AreCallersBelow (n + 1) new × AreDistinct new × AreLawful new
asked-more n rs new r is of_caller below distinct lawful mine =
    subst (λ (l : List Request). AreCallersBelow (n + 1) l × AreDistinct l × AreLawful l) (sym is)
    (below-push n rs r of_caller below, distinct-push n rs r of_caller below distinct, lawful-push rs r lawful mine)

-- Segments in a row, of those that a list has: where their items lie (`part_within`, `part_behind`), and what is made of
-- them (`segmented_reduce-part`). `reduced_long`: one item for each segment.
use Rattle.std.proofs.Common.{◌≡◌, ℕ, zero, suc, ◌+◌, ◌-◌, ◌≤◌, List, [], ◌∷◌, length, take, drop, refl, ap, sym, ◌∙◌, sum, arith}
use Rattle.std.specs.List.{fold}
use Rattle.std.proofs.Math.Seq.{take-add}
use Rattle.std.proofs.lemmas.List.{drop-drop}
use Rattle.std.proofs.lemmas.List.Sums.{sum_by-append, sum_by-cons, sum_by-take-drop, sum_by-take-le}
use Rattle.scan_kernels.specs.Segmented.{segmented_reduce}
use Rattle.scan_kernels.proofs.ResultLengths.{length-segmented_reduce}

-- some segments have no more items than there are behind those of the segments before them
pub part_within : (i k n : ℕ) (ls : List ℕ) → sum ls ≤ n → sum (take k (drop i ls)) ≤ n - sum (take i ls)
part_within i k n ls h =
    omega (arith, sum_by-take-drop (λ (l : ℕ). l) ls i, sum_by-take-le (λ (l : ℕ). l) (drop i ls) k)

-- the items behind them
pub part_behind : {X : Type 0} (i k : ℕ) (ls : List ℕ) (xs : List X) → drop (sum (take k (drop i ls))) (drop (sum (take i ls)) xs) ≡ drop (sum (take (i + k) ls)) xs
part_behind i k ls xs =
    drop-drop (sum (take k (drop i ls))) (sum (take i ls)) xs
    ∙ ap (λ n. drop n xs) (sym (ap sum (take-add i k ls) ∙ sum_by-append (λ (l : ℕ). l) (take i ls) (take k (drop i ls))))

module _ {X : Type 0} (op : X → X → X) (u : X) where
  pub reduced_long : (ls : List ℕ) (xs : List X) → length (segmented_reduce op u ls xs) ≡ length ls
  reduced_long ls xs = length-segmented_reduce op u ls xs

  take-segmented_reduce : (k : ℕ) (ls : List ℕ) (xs : List X) → take k (segmented_reduce op u ls xs) ≡ segmented_reduce op u (take k ls) xs
  take-segmented_reduce zero ls xs = refl
  take-segmented_reduce (suc k) [] xs = refl
  take-segmented_reduce (suc k) (l ∷ ls) xs = ap (λ rs. fold op u (take l xs) ∷ rs) (take-segmented_reduce k ls (drop l xs))

  drop-segmented_reduce : (i : ℕ) (ls : List ℕ) (xs : List X) → drop i (segmented_reduce op u ls xs) ≡ segmented_reduce op u (drop i ls) (drop (sum (take i ls)) xs)
  drop-segmented_reduce zero ls xs = refl
  drop-segmented_reduce (suc i) [] xs = refl
  drop-segmented_reduce (suc i) (l ∷ ls) xs =
      rw (sum_by-cons (λ (n : ℕ). n) l (take i ls)) (drop-segmented_reduce i ls (drop l xs) ∙ ap (segmented_reduce op u (drop i ls)) (drop-drop (sum (take i ls)) l xs))

  -- the reductions of some segments are made of the items behind those of the segments before them
  pub segmented_reduce-part : (i k : ℕ) (ls : List ℕ) (xs : List X)
      → take k (drop i (segmented_reduce op u ls xs)) ≡ segmented_reduce op u (take k (drop i ls)) (drop (sum (take i ls)) xs)
  segmented_reduce-part i k ls xs =
      ap (take k) (drop-segmented_reduce i ls xs) ∙ take-segmented_reduce k (drop i ls) (drop (sum (take i ls)) xs)

-- Segments of one item each: `all_ones` (their lengths), `sum-ones`, and what kernels give on them: `segmented_reduce-ones`,
-- `segmented_scan-ones`.
use Rattle.std.proofs.Common.{◌≡◌, ℕ, zero, suc, ◌≤◌, List, [], ◌∷◌, length, take, map, replicate, sum, refl, ap, ◌∙◌, All, arith}
use Rattle.std.specs.List.{flat_map, fold}
use Rattle.std.proofs.lemmas.List.Sums.{sum_by-cons}
use Rattle.segment_desc.specs.Cut.{cut}
use Rattle.scan_kernels.specs.Segmented.{scanned, segmented_scan, segmented_reduce}

pub all_ones : (ls : List ℕ) → All (λ l. l ≡ 1) ls → ls ≡ replicate (length ls) 1
all_ones [] h = refl
all_ones (l ∷ ls) h = ap (λ k. k ∷ ls) (h 0 0 (omega arith)) ∙ ap (λ ks. 1 ∷ ks) (all_ones ls (λ i d lt. h (suc i) d (omega arith)))

pub sum-ones : (n : ℕ) → sum (replicate n 1) ≡ n
sum-ones zero = refl
sum-ones (suc n) = omega (arith, sum_by-cons (λ (k : ℕ). k) 1 (replicate n 1), sum-ones n)

module _ {X : Type 0} where
  cut-ones : (n : ℕ) (xs : List X) → n ≤ length xs → cut (replicate n 1) xs ≡ map (λ x. x ∷ []) (take n xs)
  cut-ones zero xs h = refl
  cut-ones (suc n) [] h = absurd (omega arith)
  cut-ones (suc n) (x ∷ xs) h = ap (λ l. (x ∷ []) ∷ l) (cut-ones n xs (omega arith))

module _ {X : Type 0} (op : X → X → X) (u : X) where
  reduced_each : (xs : List X) → map (fold op u) (map (λ x. x ∷ []) xs) ≡ map (op u) xs
  reduced_each [] = refl
  reduced_each (x ∷ xs) = ap (λ l. op u x ∷ l) (reduced_each xs)

  scanned_each : (n : ℕ) (xs : List X) → n ≤ length xs → flat_map (scanned op u) (map (λ x. x ∷ []) (take n xs)) ≡ replicate n u
  scanned_each zero xs h = refl
  scanned_each (suc n) [] h = absurd (omega arith)
  scanned_each (suc n) (x ∷ xs) h = ap (λ l. u ∷ l) (scanned_each n xs (omega arith))

  pub segmented_reduce-ones : (ls : List ℕ) (xs : List X) → All (λ l. l ≡ 1) ls → length ls ≤ length xs → segmented_reduce op u ls xs ≡ map (op u) (take (length ls) xs)
  segmented_reduce-ones ls xs h short =
      ap (λ ks. map (fold op u) (cut ks xs)) (all_ones ls h) ∙ ap (map (fold op u)) (cut-ones (length ls) xs short) ∙ reduced_each (take (length ls) xs)

  pub segmented_scan-ones : (ls : List ℕ) (xs : List X) → All (λ l. l ≡ 1) ls → length ls ≤ length xs → segmented_scan op u ls xs ≡ replicate (length ls) u
  segmented_scan-ones ls xs h short =
      ap (λ ks. flat_map (scanned op u) (cut ks xs)) (all_ones ls h) ∙ ap (flat_map (scanned op u)) (cut-ones (length ls) xs short) ∙ scanned_each (length ls) xs short

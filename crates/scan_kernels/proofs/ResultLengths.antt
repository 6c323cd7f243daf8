-- How many items the kernels give: `length-segmented_scan`, `length-segmented_reduce`, `length-distributed`,
-- `length-indexed`, `length-segmented_index`.
use Rattle.std.proofs.Common.{◌≡◌, ℕ, ◌≤◌, List, [], ◌∷◌, length, take, drop, replicate, ℤ, refl, sum, arith, length-append}
use Rattle.std.proofs.lemmas.List.{length-drop, length-map, length-take-le, length-replicate}
use Rattle.std.proofs.lemmas.List.FromFn.{length-range_with_len}
use Rattle.std.proofs.lemmas.List.Sums.{sum_by-cons}
use Rattle.scan_kernels.specs.Distributed.{distributed}
use Rattle.scan_kernels.specs.Indexed.{indexed, segmented_index}
use Rattle.scan_kernels.specs.Segmented.{scanned, segmented_scan, segmented_reduce}
use Rattle.scan_kernels.proofs.Scanned.{length-scanned}

module _ {X : Type 0} (op : X → X → X) (u : X) where
  pub length-segmented_scan : (ls : List ℕ) (xs : List X) → sum ls ≤ length xs → length (segmented_scan op u ls xs) ≡ sum ls
  length-segmented_scan [] xs h = refl
  length-segmented_scan (l ∷ ls) xs h =
      let total = sum_by-cons (λ (n : ℕ). n) l ls in
      let rest = length-drop l xs in
      let parts = length-append (scanned op u (take l xs)) (segmented_scan op u ls (drop l xs)) in
      let first = length-scanned op u (take l xs) in
      let front = length-take-le l xs (omega arith) in
      let later = length-segmented_scan ls (drop l xs) (omega arith) in
      omega arith

  pub length-segmented_reduce : (ls : List ℕ) (xs : List X) → length (segmented_reduce op u ls xs) ≡ length ls
  length-segmented_reduce [] xs = refl
  length-segmented_reduce (l ∷ ls) xs = omega (arith, length-segmented_reduce ls (drop l xs))

pub length-distributed : {X : Type 0} (ls : List ℕ) (values : List X) → length ls ≡ length values → length (distributed ls values) ≡ sum ls
length-distributed [] values h = refl
length-distributed (l ∷ ls) [] h = absurd (omega arith)
length-distributed (l ∷ ls) (x ∷ values) h =
    omega (arith, sum_by-cons (λ (n : ℕ). n) l ls, length-append (replicate l x) (distributed ls values), length-replicate l x, length-distributed ls values (omega arith))

pub length-indexed : (start stride : ℤ) (l : ℕ) → length (indexed start stride l) ≡ l
unfolding indexed
length-indexed start stride l = simp (length-map, length-range_with_len)

pub length-segmented_index : (ls : List ℕ) (starts strides : List ℤ) → length ls ≡ length starts → length ls ≡ length strides → length (segmented_index ls starts strides) ≡ sum ls
length-segmented_index [] starts strides h also = refl
length-segmented_index (l ∷ ls) [] strides h also = absurd (omega arith)
length-segmented_index (l ∷ ls) (s ∷ starts) [] h also = absurd (omega arith)
length-segmented_index (l ∷ ls) (s ∷ starts) (d ∷ strides) h also =
    omega (arith, sum_by-cons (λ (n : ℕ). n) l ls, length-append (indexed s d l) (segmented_index ls starts strides), length-indexed s d l, length-segmented_index ls starts strides (omega arith) (omega arith))

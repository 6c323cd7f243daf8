-- An exclusive scan, item by item: `scanned_push` and `fold_push` (one more item), `scanned-append` (items in two parts),
-- `length-scanned`, `slice_get-scanned` (the item at a place).
use Rattle.std.proofs.Common.{◌≡◌, ℕ, zero, suc, ◌+◌, ◌<◌, List, [], ◌∷◌, ◌++◌, length, take, map, Some, refl, sym, ap, ◌∙◌, add-one, arith}
use Rattle.std.specs.List.{fold, range_with_len, slice_get}
use Rattle.std.proofs.lemmas.List.Sums.{fold-append}
use Rattle.scan_kernels.specs.Segmented.{scanned}

map-range_with_len-suc : {X : Type 0} (f : ℕ → X) (k n : ℕ) → map f (range_with_len (k + 1) n) ≡ map (λ i. f (suc i)) (range_with_len k n)
map-range_with_len-suc f k zero = refl
map-range_with_len-suc f k (suc n) = rw (add-one k) (ap (λ l. f (suc k) ∷ l) (rw (← add-one k) (map-range_with_len-suc f (k + 1) n)))

module _ {X : Type 0} (op : X → X → X) where
  -- the scan from a first value on
  abbrev running : X → List X → List X
  running a [] = []
  running a (x ∷ xs) = a ∷ running (op a x) xs

  scanned-running : (a : X) (xs : List X) → scanned op a xs ≡ running a xs
  scanned-running a [] = refl
  scanned-running a (x ∷ xs) =
      ap (λ l. a ∷ l) (map-range_with_len-suc (λ i. fold op a (take i (x ∷ xs))) 0 (length xs) ∙ scanned-running (op a x) xs)

  running-append : (a : X) (xs ys : List X) → running a (xs ++ ys) ≡ running a xs ++ running (fold op a xs) ys
  running-append a [] ys = refl
  running-append a (x ∷ xs) ys = ap (λ l. a ∷ l) (running-append (op a x) xs ys)

  length-running : (a : X) (xs : List X) → length (running a xs) ≡ length xs
  length-running a [] = refl
  length-running a (x ∷ xs) = ap suc (length-running (op a x) xs)

  pub length-scanned : (a : X) (xs : List X) → length (scanned op a xs) ≡ length xs
  length-scanned a xs = rw scanned-running (length-running a xs)

  pub scanned_push : (a : X) (xs : List X) (x : X) → scanned op a (xs ++ x ∷ []) ≡ scanned op a xs ++ fold op a xs ∷ []
  scanned_push a xs x =
      scanned-running a (xs ++ x ∷ []) ∙ running-append a xs (x ∷ []) ∙ ap (λ l. l ++ fold op a xs ∷ []) (sym (scanned-running a xs))

  -- a scan goes on behind the items before it, from what they come to
  pub scanned-append : (a : X) (xs ys : List X) → scanned op a (xs ++ ys) ≡ scanned op a xs ++ scanned op (fold op a xs) ys
  scanned-append a xs ys =
      scanned-running a (xs ++ ys)
      ∙ running-append a xs ys
      ∙ ap (λ l. l ++ running (fold op a xs) ys) (sym (scanned-running a xs))
      ∙ ap (λ l. scanned op a xs ++ l) (sym (scanned-running (fold op a xs) ys))

  pub fold_push : (a : X) (xs : List X) (x : X) → fold op a (xs ++ x ∷ []) ≡ op (fold op a xs) x
  fold_push a xs x = fold-append op a xs (x ∷ [])

  slice_get-running : (a : X) (xs : List X) (i : ℕ) → i < length xs → slice_get (running a xs) i ≡ Some (fold op a (take i xs))
  slice_get-running a [] i h = absurd (omega arith)
  slice_get-running a (x ∷ xs) zero h = refl
  slice_get-running a (x ∷ xs) (suc i) h = slice_get-running (op a x) xs i (omega arith)

  pub slice_get-scanned : (a : X) (xs : List X) (i : ℕ) → i < length xs → slice_get (scanned op a xs) i ≡ Some (fold op a (take i xs))
  slice_get-scanned a xs i h = rw scanned-running (slice_get-running a xs i h)

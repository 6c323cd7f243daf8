-- Sums of what stands at places of a list: one more place (`sum-next`), and the places of a wave (`sum-found`).
use Rattle.std.proofs.Common.{◌≡◌, ℕ, zero, suc, ◌+◌, ◌<◌, ◌≤◌, List, [], ◌∷◌, ◌++◌, length, Option, Some, None, refl, sym, ap, ◌∙◌, arith, slice_get, slice_index, sum, take}
use Rattle.std.specs.List.{cons_option}
use Rattle.std.proofs.lemmas.List.{take_more}
use Rattle.std.proofs.lemmas.List.Elements.{filter_map-append}
use Rattle.std.proofs.lemmas.List.Sums.{sum_by-append, sum_by-cons}
use Rattle.batch_flatten.specs.Places.{at_places, places_of}
use Rattle.batch_flatten.specs.Waves.{in_wave}
use Rattle.batch_flatten.proofs.PlaceLemmas.{at_places-of}

-- the number, or 0
abbrev or_zero : Option ℕ → ℕ
or_zero None = 0
or_zero (Some n) = n

number-at : (xs : List ℕ) (p : ℕ) → or_zero (slice_get xs p) ≡ slice_index xs p
number-at [] p = refl
number-at (x ∷ xs) zero = refl
number-at (x ∷ xs) (suc p) = number-at xs p

sum-first : (xs : List ℕ) (p : ℕ) (ps : List ℕ) → sum (at_places xs (p ∷ ps)) ≡ slice_index xs p + sum (at_places xs ps)
sum-first xs p ps = by (slice_get xs p) ∙ ap (λ n. n + sum (at_places xs ps)) (number-at xs p)
  where
    by : (o : Option ℕ) → sum (cons_option o (at_places xs ps)) ≡ or_zero o + sum (at_places xs ps)
    by None = sym (omega arith)
    by (Some n) = sum_by-cons (λ (x : ℕ). x) n (at_places xs ps)

-- one more place
pub sum-next : (xs ps : List ℕ) (k : ℕ) → k < length ps → sum (at_places xs (take (k + 1) ps)) ≡ sum (at_places xs (take k ps)) + slice_index xs (slice_index ps k)
sum-next xs ps k lt =
    let p = slice_index ps k in
    let all : at_places xs (take (k + 1) ps) ≡ at_places xs (take k ps) ++ at_places xs (p ∷ []) =
    ap (at_places xs) (take_more ps k 0 lt) ∙ filter_map-append (slice_get xs) (take k ps) (p ∷ []) in
    let last : sum (at_places xs (p ∷ [])) ≡ slice_index xs p + 0 = sum-first xs p [] in
    let both = ap sum all ∙ sum_by-append (λ (x : ℕ). x) (at_places xs (take k ps)) (at_places xs (p ∷ [])) in
    omega (arith, both, last)

sum-le : (xs ys ps : List ℕ) → ((p : ℕ) → slice_index xs p ≤ slice_index ys p) → sum (at_places xs ps) ≤ sum (at_places ys ps)
sum-le xs ys [] le = omega arith
sum-le xs ys (p ∷ ps) le =
    let here = le p in
    let rest = sum-le xs ys ps le in
    let first = sum-first xs p ps in
    let second = sum-first ys p ps in
    omega (arith, here, rest, first, second)

-- the places of a wave, where numbers have not risen
pub sum-found : (now first ws ps : List ℕ) (wave : ℕ) → length ws ≡ length first → ps ≡ places_of ws wave → ((p : ℕ) → slice_index now p ≤ slice_index first p) → sum (at_places now ps) ≤ sum (in_wave wave ws first)
sum-found now first ws ps wave long are le =
    let same : sum (at_places first ps) ≡ sum (in_wave wave ws first) = ap (λ l. sum (at_places first l)) are ∙ ap sum (at_places-of first ws wave long) in
    let less = sum-le now first ps le in
    omega (arith, same, less)

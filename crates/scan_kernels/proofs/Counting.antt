-- How often places stand in an index: `each_inside` (an index that holds each of its places once holds nothing else),
-- `held_apart` (and none of them twice), `all_counted` (what holds of as many items as there are holds of all), `held_once` (an
-- index that holds each of its places holds each once).
use Rattle.std.proofs.Common.{◌≡◌, ℕ, zero, suc, ◌+◌, ◌<◌, ◌≤◌, List, [], ◌∷◌, length, take, get_or, ℤ, pos, negsuc, Bool, true, false, cond, ltb, refl, ap, sym, subst, arith, All, add-one, count_by, inl, inr}
use Rattle.std.specs.Ordering.{int_eq}
use Rattle.std.proofs.lemmas.Bool.{cases_eq}
use Rattle.std.proofs.lemmas.Bool.Decides.{nat_tests}
use Rattle.std.proofs.lemmas.List.{take-take}
use Rattle.std.proofs.lemmas.List.Elements.{All-cons, All-nil, All-weaker}
use Rattle.std.proofs.lemmas.List.Sums.{sum_by-cons, sum_by-take-le, count_by-le-length, count_by_more_yes}
use Rattle.scan_kernels.specs.Indices.{IsPlaceOf, HoldsEachPlaceOnce, times_held}

module _ {X : Type 0} (f : X → Bool) where
  pub all_counted : (xs : List X) → count_by f xs ≡ length xs → All (λ x. f x ≡ true) xs
  all_counted [] h = All-nil (λ x. f x ≡ true)
  all_counted (x ∷ xs) h =
      let few = count_by-le-length f xs in
      let parts = sum_by-cons (λ y. cond (f y) 1 0) x xs in
      let holds : f x ≡ true = elim (f x) as (λ b. cond b 1 0 + count_by f xs ≡ suc (length xs) → b ≡ true) [ true ↦ λ _. refl | false ↦ λ e. absurd (omega arith) ] (omega arith) in
      let rest : count_by f xs ≡ length xs = omega (arith, ap {B = ℕ} (λ b. cond b 1 0) holds) in
      All-cons (λ x. f x ≡ true) x xs holds (all_counted xs rest)

-- whether the integer is a place below n
inside : ℕ → ℤ → Bool
inside n (pos p) = ltb p n
inside n (negsuc p) = false

inside_more : (n : ℕ) (z : ℤ) → cond (inside (n + 1) z) 1 0 ≡ cond (inside n z) 1 0 + cond (int_eq z (pos n)) 1 0
unfolding inside
inside_more n (pos p) = grind (arith, nat_tests)
inside_more n (negsuc p) = refl

count_inside_more : (n : ℕ) (zs : List ℤ) → count_by (inside (n + 1)) zs ≡ count_by (inside n) zs + times_held n zs
count_inside_more n [] = refl
count_inside_more n (z ∷ zs) =
    let more = sum_by-cons (λ y. cond (inside (n + 1) y) 1 0) z zs in
    let before = sum_by-cons (λ y. cond (inside n y) 1 0) z zs in
    let here = sum_by-cons (λ y. cond (int_eq y (pos n)) 1 0) z zs in
    omega (arith, count_inside_more n zs, inside_more n z)

inside_none : (z : ℤ) → inside 0 z ≡ false
unfolding inside
inside_none (pos p) = grind (arith, nat_tests)
inside_none (negsuc p) = refl

count_inside_none : (zs : List ℤ) → count_by (inside 0) zs ≡ 0
count_inside_none [] = refl
count_inside_none (z ∷ zs) =
    let parts = sum_by-cons (λ y. cond (inside 0 y) 1 0) z zs in
    omega (arith, count_inside_none zs, ap {B = ℕ} (λ b. cond b 1 0) (inside_none z))

count_inside : (n : ℕ) (zs : List ℤ) → ((p : ℕ) → p < n → times_held p zs ≡ 1) → count_by (inside n) zs ≡ n
count_inside zero zs h = count_inside_none zs
count_inside (suc n) zs h =
    let before = count_inside n zs (λ p lt. h p (omega arith)) in
    rw (sym (add-one n)) (omega (arith, before, count_inside_more n zs, h n (omega arith)))

place_inside : (n : ℕ) (z : ℤ) → inside n z ≡ true → IsPlaceOf n z
unfolding inside
place_inside n (pos p) h = grind (arith, nat_tests)
place_inside n (negsuc p) h = cc

-- an index that holds each of its places once holds nothing else
pub each_inside : (index : List ℤ) → HoldsEachPlaceOnce index → All (IsPlaceOf (length index)) index
each_inside index h =
    let n = length index in
    All-weaker (λ z. inside n z ≡ true) (IsPlaceOf n) (place_inside n) index (all_counted (inside n) index (count_inside n index h))

same_place : (q : ℕ) → int_eq (pos q) (pos q) ≡ true
same_place q = grind (arith, nat_tests)

module _ (index : List ℤ) (p : ℕ) where
  -- a place that was met stands in the index once more than before it
  pub held_more : (i : ℕ) → i < length index → get_or index i (pos 0) ≡ pos p → times_held p (take (i + 1) index) ≡ times_held p (take i index) + 1
  held_more i lt here = count_by_more_yes (λ z. int_eq z (pos p)) index i (pos 0) lt (rw here (same_place p))

  -- one that was met before i and is met at i stands in the index twice
  pub held_twice : (i : ℕ) → i < length index → get_or index i (pos 0) ≡ pos p → 1 ≤ times_held p (take i index) → 2 ≤ times_held p index
  held_twice i lt here met = omega (arith, held_more i lt here, sum_by-take-le (λ z. cond (int_eq z (pos p)) 1 0) index (i + 1))

  pub met_before : (k i : ℕ) → k < i → i < length index → get_or index k (pos 0) ≡ pos p → 1 ≤ times_held p (take i index)
  met_before k i before lt there =
      let front = sum_by-take-le (λ z. cond (int_eq z (pos p)) 1 0) (take i index) (k + 1) in
      let same = ap (times_held p) (take-take (k + 1) i index (omega arith)) in
      omega (arith, front, same, held_more k (omega arith) there)

  -- no place stands at two places of an index that holds each once
  pub held_apart : (k i : ℕ) → HoldsEachPlaceOnce index → p < length index → k < i → i < length index → get_or index k (pos 0) ≡ pos p → get_or index i (pos 0) ≡ pos p → ⊥
  held_apart k i once place before lt there here =
      let twice = held_twice i lt here (met_before k i before lt there) in
      let one = once p place in
      absurd (omega arith)

-- places that are each held at least once take as many items
count_held : (n : ℕ) (zs : List ℤ) → ((p : ℕ) → p < n → 1 ≤ times_held p zs) → n ≤ count_by (inside n) zs
count_held zero zs h = omega arith
count_held (suc n) zs h =
    let before = count_held n zs (λ p lt. h p (omega arith)) in
    rw (sym (add-one n)) (omega (arith, before, count_inside_more n zs, h n (omega arith)))

-- and one that is held more often takes more
count_held_more : (n q : ℕ) (zs : List ℤ) → ((p : ℕ) → p < n → 1 ≤ times_held p zs) → q < n → n + times_held q zs ≤ count_by (inside n) zs + 1
count_held_more zero q zs h lt = absurd (omega arith)
count_held_more (suc n) q zs h lt =
    let earlier : (p : ℕ) → p < n → 1 ≤ times_held p zs = λ p below. h p (omega arith) in
    let here = count_inside_more n zs in
    let next : (n + 1) + times_held q zs ≤ count_by (inside (n + 1)) zs + 1 = elim (cases_eq q n) [
      | inl e ↦ let same = ap (λ k. times_held k zs) e in omega (arith, count_held n zs earlier)
      | inr ne ↦ omega (arith, count_held_more n q zs earlier (omega (arith, ne)), h n (omega arith))
    ] in
    subst (λ k. k + times_held q zs ≤ count_by (inside k) zs + 1) (add-one n) next

-- an index that holds each of its places holds each once
pub held_once : (index : List ℤ) → ((p : ℕ) → p < length index → 1 ≤ times_held p index) → HoldsEachPlaceOnce index
held_once index h p lt =
    let few = count_by-le-length (inside (length index)) index in
    let more = count_held_more (length index) p index h lt in
    let some = h p lt in
    omega arith

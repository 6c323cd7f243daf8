-- Conditions as they are computed, and as the kernels know them: `divisors-tested`, `shifts-tested`, `permutes-tested`,
-- `places-tested`, `once-tested`, `lies_within-tested`. Each says that a test that tells the one tells the other.
use Rattle.std.proofs.Common.{◌≡◌, ◌↔◌, ℕ, ◌+◌, ◌<◌, List, [], ◌∷◌, length, All, IsTrue, Bool, true, false, refl, sym, ◌∙◌, ℤ, pos, negsuc, zip, arith, subst}
use Rattle.std.specs.Prelude.{◌&&◌, ◌==◌}
use Rattle.std.specs.List.{AllByRecursion, AllZip, list_all, range_with_len}
use Rattle.std.proofs.lemmas.Bool.{ltb-true, eqb-true, lt-ltb}
use Rattle.std.proofs.lemmas.Bool.Decides.{nat_tests}
use Rattle.std.proofs.lemmas.List.Elements.{recursion_from_All, All-from_recursion, All-from_get_or}
use Rattle.std.proofs.lemmas.List.FromFn.{get_or-range_with_len, length-range_with_len}
use Rattle.segment_desc.specs.Cut.{cut}
use Rattle.item_operations.specs.IntegerOps.{IsDivisor, IsShift}
use Rattle.scan_kernels.specs.Indices.{HoldsEachPlaceOnce, IsPlaceOf, LieWithin, PermuteSegments, times_held}
use Rattle.scan_kernels.proofs.Segments.{length_cut}
use Rattle.cvl_calls.specs.Conditions.{is_divisor, is_shift, is_place, holds_each_place, permutes, lies_within}

-- a test that tells whether S holds agrees with another one that does
pub same_answer : (b q : Bool) (S : Type 0) → IsTrue b ↔ S → (S → q ≡ true) → (q ≡ true → S) → b ≡ q
same_answer true q S h to from = sym (to (h.0 refl))
same_answer false true S h to from = h.1 (from refl)
same_answer false false S h to from = refl

both_true : (a b : Bool) → (a && b) ≡ true → (a ≡ true) × (b ≡ true)
both_true true b e = (refl, e)
both_true false b e = absurd cc

and_true : (a b : Bool) → a ≡ true → b ≡ true → (a && b) ≡ true
and_true true b e f = f
and_true false b e f = e

module _ {X : Type 0} (p : X → Bool) (P : X → Type 0) where
  each_passes : ((x : X) → P x → p x ≡ true) → (xs : List X) → AllByRecursion P xs → list_all p xs ≡ true
  each_passes one [] h = refl
  each_passes one (x ∷ xs) h = and_true (p x) (list_all p xs) (one x h.0) (each_passes one xs h.1)

  each_holds : ((x : X) → p x ≡ true → P x) → (xs : List X) → list_all p xs ≡ true → AllByRecursion P xs
  each_holds one [] e = tt
  each_holds one (x ∷ xs) e = let parts = both_true (p x) (list_all p xs) e in (one x parts.0, each_holds one xs parts.1)

  -- all items pass where P holds of all
  pub all_pass : ((x : X) → P x → p x ≡ true) → (xs : List X) → All P xs → list_all p xs ≡ true
  all_pass one xs h = each_passes one xs (recursion_from_All P xs h)

  pub all_hold : ((x : X) → p x ≡ true → P x) → (xs : List X) → list_all p xs ≡ true → All P xs
  all_hold one xs e = All-from_recursion P xs (each_holds one xs e)

  pub all_tested : ((x : X) → P x → p x ≡ true) → ((x : X) → p x ≡ true → P x) → (b : Bool) (xs : List X) → IsTrue b ↔ All P xs → b ≡ list_all p xs
  all_tested to from b xs h = same_answer b (list_all p xs) (All P xs) h (all_pass to xs) (all_hold from xs)

divisor-passes : (y : ℤ) → IsDivisor y → is_divisor y ≡ true
divisor-passes y h = grind (arith, nat_tests)

divisor-holds : (y : ℤ) → is_divisor y ≡ true → IsDivisor y
divisor-holds y e = grind (arith, nat_tests)

pub divisors-tested : (b : Bool) (ys : List ℤ) → IsTrue b ↔ All IsDivisor ys → b ≡ list_all is_divisor ys
divisors-tested = all_tested is_divisor IsDivisor divisor-passes divisor-holds

shift-passes : (y : ℤ) → IsShift y → is_shift y ≡ true
shift-passes y h = grind (arith, nat_tests)

shift-holds : (y : ℤ) → is_shift y ≡ true → IsShift y
shift-holds y e = grind (arith, nat_tests)

pub shifts-tested : (b : Bool) (ys : List ℤ) → IsTrue b ↔ All IsShift ys → b ≡ list_all is_shift ys
shifts-tested = all_tested is_shift IsShift shift-passes shift-holds

place-passes : (n : ℕ) (z : ℤ) → IsPlaceOf n z → is_place n z ≡ true
place-passes n (pos p) h = let lt : p < n = grind (arith, h.1) in lt-ltb p n lt
place-passes n (negsuc p) h = grind (arith, nat_tests)

place-holds : (n : ℕ) (z : ℤ) → is_place n z ≡ true → IsPlaceOf n z
place-holds n (pos p) e = let lt = ltb-true p n e in grind (arith, nat_tests)
place-holds n (negsuc p) e = cc

pub places-pass : (n : ℕ) (index : List ℤ) → All (IsPlaceOf n) index → list_all (is_place n) index ≡ true
places-pass n = all_pass (is_place n) (IsPlaceOf n) (place-passes n)

pub places-hold : (n : ℕ) (index : List ℤ) → list_all (is_place n) index ≡ true → All (IsPlaceOf n) index
places-hold n = all_hold (is_place n) (IsPlaceOf n) (place-holds n)

pub places-tested : (b : Bool) (n : ℕ) (index : List ℤ) → IsTrue b ↔ All (IsPlaceOf n) index → b ≡ list_all (is_place n) index
places-tested b n index h = same_answer b (list_all (is_place n) index) (All (IsPlaceOf n) index) h (places-pass n index) (places-hold n index)

module _ (index : List ℤ) where
  pub once-passes : HoldsEachPlaceOnce index → holds_each_place index ≡ true
  once-passes h =
      all_pass (λ p. times_held p index == 1) (λ p. times_held p index ≡ 1) (λ p e. rw e refl) (range_with_len 0 (length index))
      (All-from_get_or (λ p. times_held p index ≡ 1) (range_with_len 0 (length index)) 0 (λ i lt.
      let within : i < length index = omega (arith, length-range_with_len 0 (length index)) in
      subst (λ (k : ℕ). times_held k index ≡ 1) (sym (get_or-range_with_len 0 (length index) i 0 within)) (h (0 + i) (omega arith))))

  pub once-holds : holds_each_place index ≡ true → HoldsEachPlaceOnce index
  once-holds e p lt =
      let each = all_hold (λ p. times_held p index == 1) (λ p. times_held p index ≡ 1) (λ p e. eqb-true (times_held p index) 1 e) (range_with_len 0 (length index)) e in
      let here = each p 0 (omega (arith, length-range_with_len 0 (length index))) in
      let place : 0 + p ≡ p = omega arith in
      subst (λ (k : ℕ). times_held k index ≡ 1) (get_or-range_with_len 0 (length index) p 0 lt ∙ place) here

pub once-tested : (b : Bool) (index : List ℤ) → IsTrue b ↔ HoldsEachPlaceOnce index → b ≡ holds_each_place index
once-tested b index h = same_answer b (holds_each_place index) (HoldsEachPlaceOnce index) h (once-passes index) (once-holds index)

pub permutes-pass : (ls : List ℕ) (index : List ℤ) → PermuteSegments ls index → permutes ls index ≡ true
unfolding PermuteSegments
permutes-pass ls index h = all_pass holds_each_place HoldsEachPlaceOnce once-passes (cut ls index) h

pub permutes-hold : (ls : List ℕ) (index : List ℤ) → permutes ls index ≡ true → PermuteSegments ls index
unfolding PermuteSegments
permutes-hold ls index e = all_hold holds_each_place HoldsEachPlaceOnce once-holds (cut ls index) e

pub permutes-tested : (b : Bool) (ls : List ℕ) (index : List ℤ) → IsTrue b ↔ PermuteSegments ls index → b ≡ permutes ls index
permutes-tested b ls index h = same_answer b (permutes ls index) (PermuteSegments ls index) h (permutes-pass ls index) (permutes-hold ls index)

-- the segments of the index are as many as the lengths of the source
lie-pass : (ss : List ℕ) (pieces : List (List ℤ)) → AllZip (λ n places. All (IsPlaceOf n) places) ss pieces → list_all (λ p. list_all (is_place p.0) p.1) (zip ss pieces) ≡ true
lie-pass [] pieces h = refl
lie-pass (s ∷ ss) [] h = refl
lie-pass (s ∷ ss) (p ∷ pieces) h = and_true (list_all (is_place s) p) _ (places-pass s p h.0) (lie-pass ss pieces h.1)

lie-hold : (ss : List ℕ) (pieces : List (List ℤ)) → length ss ≡ length pieces → list_all (λ p. list_all (is_place p.0) p.1) (zip ss pieces) ≡ true → AllZip (λ n places. All (IsPlaceOf n) places) ss pieces
lie-hold [] [] same e = tt
lie-hold [] (p ∷ pieces) same e = absurd (omega arith)
lie-hold (s ∷ ss) [] same e = absurd (omega arith)
lie-hold (s ∷ ss) (p ∷ pieces) same e =
    let parts = both_true (list_all (is_place s) p) _ e in
    (places-hold s p parts.0, lie-hold ss pieces (omega arith) parts.1)

pub lies_within-tested : (b : Bool) (ss ts : List ℕ) (index : List ℤ) → length ss ≡ length ts → IsTrue b ↔ LieWithin ss ts index → b ≡ lies_within ss ts index
lies_within-tested b ss ts index same h =
    same_answer b (lies_within ss ts index) (LieWithin ss ts index) h (lie-pass ss (cut ts index)) (lie-hold ss (cut ts index) (same ∙ sym (length_cut ts index)))

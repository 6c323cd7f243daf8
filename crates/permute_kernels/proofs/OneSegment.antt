-- An index that is one segment: `permutes_one` (a permutation of it), `within_one` (places of it).
use Rattle.std.proofs.Common.{◌≡◌, ◌↔◌, ℕ, ℤ, List, [], ◌∷◌, length, take, sum, sym, subst, refl, All, arith}
use Rattle.std.proofs.lemmas.List.{take_all}
use Rattle.std.proofs.lemmas.List.Elements.{All-cons, All-head, All-nil}
use Rattle.scan_kernels.specs.Indices.{HoldsEachPlaceOnce, IsPlaceOf, LieWithin, PermuteSegments}

module _ (index : List ℤ) where
  pub sum_one : sum (length index ∷ []) ≡ length index
  sum_one = omega arith

  pub permutes_one : PermuteSegments (length index ∷ []) index ↔ HoldsEachPlaceOnce index
  unfolding PermuteSegments
  permutes_one =
      let whole = take_all (length index) index (omega arith) in (
        λ h. subst HoldsEachPlaceOnce whole (All-head HoldsEachPlaceOnce (take (length index) index) [] h),
        λ h. All-cons HoldsEachPlaceOnce (take (length index) index) [] (subst HoldsEachPlaceOnce (sym whole) h) (All-nil HoldsEachPlaceOnce),
      )

  pub within_one : (n : ℕ) → LieWithin (n ∷ []) (length index ∷ []) index ↔ All (IsPlaceOf n) index
  within_one n =
      let whole = take_all (length index) index (omega arith) in
      (λ h. subst (All (IsPlaceOf n)) whole h.0, λ h. (subst (All (IsPlaceOf n)) (sym whole) h, tt))

-- Items that are kept by a flag: `packed-append` (of joined lists), `length-packed` (how many they are).
use Rattle.std.proofs.Common.{◌≡◌, List, [], ◌∷◌, ◌++◌, length, map, refl, ap, ◌∙◌, zip, Bool, true, false, cond, arith}
use Rattle.std.specs.List.{filter}
use Rattle.std.proofs.lemmas.List.{map-append}
use Rattle.std.proofs.lemmas.List.Elements.{filter-append}
use Rattle.std.proofs.lemmas.List.Sums.{sum_by-cons}
use Rattle.scan_kernels.specs.Packed.{number_set, packed}
use Rattle.scan_kernels.proofs.Joining.{zip-append}

module _ {X : Type 0} where
  pub packed-append : (fs gs : List Bool) (xs ys : List X) → length fs ≡ length xs → packed (fs ++ gs) (xs ++ ys) ≡ packed fs xs ++ packed gs ys
  packed-append fs gs xs ys same =
      ap (λ l. map (λ p. p.1) (filter (λ p. p.0) l)) (zip-append fs gs xs ys same)
      ∙ ap (map (λ p. p.1)) (filter-append (λ p. p.0) (zip fs xs) (zip gs ys))
      ∙ map-append (λ p. p.1) (filter (λ p. p.0) (zip fs xs)) (filter (λ p. p.0) (zip gs ys))

  pub length-packed : (flags : List Bool) (xs : List X) → length flags ≡ length xs → length (packed flags xs) ≡ number_set flags
  length-packed [] xs same = refl
  length-packed (b ∷ flags) [] same = absurd (omega arith)
  length-packed (true ∷ flags) (x ∷ xs) same = omega (arith, length-packed flags xs (omega arith), sum_by-cons {X = Bool} (λ b. cond b 1 0) true flags)
  length-packed (false ∷ flags) (x ∷ xs) same = omega (arith, length-packed flags xs (omega arith), sum_by-cons {X = Bool} (λ b. cond b 1 0) false flags)

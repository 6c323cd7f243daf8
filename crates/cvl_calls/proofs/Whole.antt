-- A pack needs no segments, `over_items-packed`.
use Rattle.std.proofs.Common.{◌≡◌, ℕ, List, [], ◌∷◌, ◌++◌, length, take, drop, refl, sym, ap, ◌∙◌, sum, ℤ, Bool, arith}
use Rattle.std.proofs.lemmas.List.{length-drop, length-take, take-append-drop}
use Rattle.std.proofs.lemmas.List.Sums.{sum_by-cons}
use Rattle.scan_kernels.specs.Packed.{packed}
use Rattle.scan_kernels.proofs.PackedLists.{packed-append}
use Rattle.vector_memory.specs.Contents.{Content, Ints, Bools, Segs, size_of}
use Rattle.cvl_calls.specs.Operands.{over_items}
use Rattle.cvl_calls.specs.SegmentedPack.{segmented_pack}

-- the packed segments joined are the pack of all items
module _ {X : Type 0} where
  pub segmented_pack-joined : (ls : List ℕ) (flags : List Bool) (xs : List X) → sum ls ≡ length flags → length flags ≡ length xs → segmented_pack ls flags xs ≡ packed flags xs
  segmented_pack-joined [] [] xs total same = refl
  segmented_pack-joined [] (b ∷ flags) xs total same = absurd (omega arith)
  segmented_pack-joined (l ∷ ls) flags xs total same =
      let parts = sum_by-cons (λ (n : ℕ). n) l ls in
      let rest : sum ls ≡ length (drop l flags) = omega (arith, length-drop l flags) in
      let front : length (take l flags) ≡ length (take l xs) = omega (arith, length-take l flags, length-take l xs) in
      let back : length (drop l flags) ≡ length (drop l xs) = omega (arith, length-drop l flags, length-drop l xs) in
      ap (λ k. packed (take l flags) (take l xs) ++ k) (segmented_pack-joined ls (drop l flags) (drop l xs) rest back)
      ∙ sym (packed-append (take l flags) (drop l flags) (take l xs) (drop l xs) front)
      ∙ ap (λ (f : List Bool). packed f (take l xs ++ drop l xs)) (take-append-drop l flags)
      ∙ ap (packed flags) (take-append-drop l xs)

over_items-same : (f g : (X : Type 0) → List X → List X) (v : Content) → ((X : Type 0) (xs : List X) → length xs ≡ size_of v → f X xs ≡ g X xs) → over_items f v ≡ over_items g v
over_items-same f g (Ints xs) same = ap (λ (l : List ℤ). Ints l) (same ℤ xs refl)
over_items-same f g (Bools bs) same = ap (λ (l : List Bool). Bools l) (same Bool bs refl)
over_items-same f g (Segs ls) same = refl

pub over_items-packed : (ls : List ℕ) (flags : List Bool) (v : Content) → size_of v ≡ length flags → sum ls ≡ size_of v → over_items (λ X xs. packed flags xs) v ≡ over_items (λ X xs. segmented_pack ls flags xs) v
over_items-packed ls flags v same all =
    over_items-same (λ X xs. packed flags xs) (λ X xs. segmented_pack ls flags xs) v (λ X xs long. sym (segmented_pack-joined ls flags xs (all ∙ same) (sym same ∙ sym long)))

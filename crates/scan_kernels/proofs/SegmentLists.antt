-- Lists of segments, each made of its length and of what else stands at its number: `lengths_are`, `segment_is`, `segments_many`.
-- `joined_map`: such segments joined.
use Rattle.std.proofs.Common.{◌≡◌, ℕ, ℤ, pos, ◌<◌, List, [], ◌∷◌, ◌++◌, length, map, zip, refl, sym, ap, ◌∙◌, get_or, arith}
use Rattle.std.specs.List.{flat_map}
use Rattle.std.proofs.lemmas.List.{get_or-map, length-map}
use Rattle.std.proofs.lemmas.Slice.Zip.{length-zip, get_or-zip}
use Rattle.segment_desc.specs.Cut.{joined}
use Rattle.scan_kernels.specs.Indexed.{indexed}

pub joined_map : {X Y : Type 0} (f : Y → List X) (ys : List Y) → joined (map f ys) ≡ flat_map f ys
joined_map f [] = refl
joined_map f (y ∷ ys) = ap (λ zs. f y ++ zs) (joined_map f ys)

module _ {X Y Z : Type 0} (f : X × Y → List Z) where
  pub segments_many : (xs : List X) (ys : List Y) → length xs ≡ length ys → length (map f (zip xs ys)) ≡ length xs
  segments_many xs ys same = omega (arith, length-map (zip xs ys) f, length-zip xs ys)

  pub segment_is : (xs : List X) (ys : List Y) (n : ℕ) (d : X) (e : Y) → length xs ≡ length ys → n < length xs
      → get_or (map f (zip xs ys)) n [] ≡ f (get_or xs n d, get_or ys n e)
  segment_is xs ys n d e same h =
      let long = length-zip xs ys in
      get_or-map f (zip xs ys) n (d, e) [] (omega arith) ∙ ap f (get_or-zip xs ys n (d, e) h (omega arith))

pub lengths_are : {X Y : Type 0} (f : ℕ × Y → List X) → ((l : ℕ) (y : Y) → length (f (l, y)) ≡ l)
    → (ls : List ℕ) (ys : List Y) → length ls ≡ length ys → ls ≡ map length (map f (zip ls ys))
lengths_are f sized [] ys same = refl
lengths_are f sized (l ∷ ls) [] same = absurd (omega arith)
lengths_are f sized (l ∷ ls) (y ∷ ys) same =
    ap (λ k. k ∷ ls) (sym (sized l y)) ∙ ap (λ ks. length (f (l, y)) ∷ ks) (lengths_are f sized ls ys (omega arith))

-- segments of integers that rise
module _ (ls : List ℕ) (starts strides : List ℤ) where
  pub rising_many : length ls ≡ length starts → length ls ≡ length strides → length (map (λ p. indexed p.1.0 p.1.1 p.0) (zip ls (zip starts strides))) ≡ length ls
  rising_many same also =
      let both = length-zip starts strides in
      segments_many (λ (p : ℕ × (ℤ × ℤ)). indexed p.1.0 p.1.1 p.0) ls (zip starts strides) (omega arith)

  pub rising_is : (n : ℕ) → length ls ≡ length starts → length ls ≡ length strides → n < length ls
      → get_or (map (λ p. indexed p.1.0 p.1.1 p.0) (zip ls (zip starts strides))) n [] ≡ indexed (get_or starts n (pos 0)) (get_or strides n (pos 0)) (get_or ls n 0)
  rising_is n same also h =
      let both = length-zip starts strides in
      segment_is (λ (p : ℕ × (ℤ × ℤ)). indexed p.1.0 p.1.1 p.0) ls (zip starts strides) n 0 (pos 0, pos 0) (omega arith) h
      ∙ ap (λ (q : ℤ × ℤ). indexed q.0 q.1 (get_or ls n 0)) (get_or-zip starts strides n (pos 0, pos 0) (omega arith) (omega arith))

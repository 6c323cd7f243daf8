-- On operands that lie in parts a kernel gives what it gives on each part, joined: `segmented_permute-joined`,
-- `segmented_gather-joined`, `packed-joined`, `numbers_set-joined`. Where each part is one segment: `permuted-joined`,
-- `gathered-joined`.
use Rattle.std.proofs.Common.{◌≡◌, ℕ, ℤ, List, [], ◌∷◌, ◌++◌, length, map, sum, refl, sym, ap, ◌∙◌, All, zip, Bool}
use Rattle.std.specs.List.{flat_map, AllByRecursion}
use Rattle.std.proofs.lemmas.List.Elements.{recursion_from_All}
use Rattle.segment_desc.specs.Cut.{cut, joined}
use Rattle.scan_kernels.proofs.Joining.{cut-wholes}
use Rattle.scan_kernels.specs.Gathered.{gathered, segmented_gather}
use Rattle.scan_kernels.specs.Packed.{numbers_set, packed}
use Rattle.scan_kernels.specs.Permuted.{permuted, segmented_permute}
use Rattle.scan_kernels.proofs.PackedLists.{packed-append}
use Rattle.permute_kernels.proofs.Joining.{numbers_set-append, segmented_gather-append, segmented_permute-append}

module _ {P X : Type 0} (items : P → List X) (index : P → List ℤ) (lengths : P → List ℕ) where
  permutes : (parts : List P) → AllByRecursion (λ p. (length (index p) ≡ length (items p)) × (sum (lengths p) ≡ length (index p))) parts
      → joined (map (λ p. segmented_permute (lengths p) (index p) (items p)) parts) ≡ segmented_permute (flat_map lengths parts) (flat_map index parts) (flat_map items parts)
  permutes [] h = refl
  permutes (p ∷ ps) h =
      ap (λ (l : List X). segmented_permute (lengths p) (index p) (items p) ++ l) (permutes ps h.1)
      ∙ sym (segmented_permute-append (lengths p) (flat_map lengths ps) (index p) (flat_map index ps) (items p) (flat_map items ps) h.0.1 (h.0.1 ∙ h.0.0))

  pub segmented_permute-joined : (parts : List P) → All (λ p. (length (index p) ≡ length (items p)) × (sum (lengths p) ≡ length (index p))) parts
      → joined (map (λ p. segmented_permute (lengths p) (index p) (items p)) parts) ≡ segmented_permute (flat_map lengths parts) (flat_map index parts) (flat_map items parts)
  segmented_permute-joined parts h = permutes parts (recursion_from_All _ parts h)

module _ {P X : Type 0} (items : P → List X) (source : P → List ℕ) (index : P → List ℤ) (target : P → List ℕ) where
  gathers : (parts : List P) → AllByRecursion (λ p. (sum (source p) ≡ length (items p)) × (sum (target p) ≡ length (index p)) × (length (source p) ≡ length (target p))) parts
      → joined (map (λ p. segmented_gather (source p) (items p) (target p) (index p)) parts) ≡ segmented_gather (flat_map source parts) (flat_map items parts) (flat_map target parts) (flat_map index parts)
  gathers [] h = refl
  gathers (p ∷ ps) h =
      ap (λ (l : List X). segmented_gather (source p) (items p) (target p) (index p) ++ l) (gathers ps h.1)
      ∙ sym (segmented_gather-append (source p) (target p) (flat_map source ps) (flat_map target ps) (items p) (flat_map items ps) (index p) (flat_map index ps) h.0.2 h.0.0 h.0.1)

  pub segmented_gather-joined : (parts : List P) → All (λ p. (sum (source p) ≡ length (items p)) × (sum (target p) ≡ length (index p)) × (length (source p) ≡ length (target p))) parts
      → joined (map (λ p. segmented_gather (source p) (items p) (target p) (index p)) parts) ≡ segmented_gather (flat_map source parts) (flat_map items parts) (flat_map target parts) (flat_map index parts)
  segmented_gather-joined parts h = gathers parts (recursion_from_All _ parts h)

module _ {P X : Type 0} (items : P → List X) (flags : P → List Bool) where
  packs : (parts : List P) → AllByRecursion (λ p. length (flags p) ≡ length (items p)) parts
      → joined (map (λ p. packed (flags p) (items p)) parts) ≡ packed (flat_map flags parts) (flat_map items parts)
  packs [] h = refl
  packs (p ∷ ps) h =
      ap (λ (l : List X). packed (flags p) (items p) ++ l) (packs ps h.1)
      ∙ sym (packed-append (flags p) (flat_map flags ps) (items p) (flat_map items ps) h.0)

  pub packed-joined : (parts : List P) → All (λ p. length (flags p) ≡ length (items p)) parts
      → joined (map (λ p. packed (flags p) (items p)) parts) ≡ packed (flat_map flags parts) (flat_map items parts)
  packed-joined parts h = packs parts (recursion_from_All _ parts h)

module _ {P : Type 0} (flags : P → List Bool) (lengths : P → List ℕ) where
  counts : (parts : List P) → AllByRecursion (λ p. sum (lengths p) ≡ length (flags p)) parts
      → joined (map (λ p. numbers_set (lengths p) (flags p)) parts) ≡ numbers_set (flat_map lengths parts) (flat_map flags parts)
  counts [] h = refl
  counts (p ∷ ps) h =
      ap (λ (l : List ℤ). numbers_set (lengths p) (flags p) ++ l) (counts ps h.1)
      ∙ sym (numbers_set-append (lengths p) (flat_map lengths ps) (flags p) (flat_map flags ps) h.0)

  pub numbers_set-joined : (parts : List P) → All (λ p. sum (lengths p) ≡ length (flags p)) parts
      → joined (map (λ p. numbers_set (lengths p) (flags p)) parts) ≡ numbers_set (flat_map lengths parts) (flat_map flags parts)
  numbers_set-joined parts h = counts parts (recursion_from_All _ parts h)

-- parts of which each is one segment
module _ {P X Y Z : Type 0} (f : X → Y → List Z) (first : P → X) (second : P → Y) where
  each-pair : (parts : List P) → joined (map (λ p. f (first p) (second p)) parts) ≡ flat_map (λ (q : X × Y). f q.0 q.1) (zip (map first parts) (map second parts))
  each-pair [] = refl
  each-pair (p ∷ ps) = ap (λ (l : List Z). f (first p) (second p) ++ l) (each-pair ps)

module _ {P X : Type 0} (items : P → List X) (index : P → List ℤ) where
  same_lengths : (parts : List P) → AllByRecursion (λ p. length (index p) ≡ length (items p)) parts → map (λ p. length (index p)) parts ≡ map (λ p. length (items p)) parts
  same_lengths [] h = refl
  same_lengths (p ∷ ps) h = ap (λ n. n ∷ map (λ (q : P). length (index q)) ps) h.0 ∙ ap (λ (l : List ℕ). length (items p) ∷ l) (same_lengths ps h.1)

  pub permuted-joined : (parts : List P) → All (λ p. length (index p) ≡ length (items p)) parts
      → joined (map (λ p. permuted (index p) (items p)) parts) ≡ segmented_permute (map (λ p. length (items p)) parts) (flat_map index parts) (flat_map items parts)
  permuted-joined parts h =
      let move : List ℤ × List X → List X = λ q. permuted q.0 q.1 in
      let lengths = map (λ (p : P). length (items p)) parts in
      let indices : cut lengths (flat_map index parts) ≡ map index parts =
      ap (λ ls. cut ls (flat_map index parts)) (sym (same_lengths parts (recursion_from_All _ parts h))) ∙ cut-wholes index parts in
      each-pair permuted index items parts
      ∙ ap (λ (l : List (List ℤ)). flat_map move (zip l (map items parts))) (sym indices)
      ∙ ap (λ (l : List (List X)). flat_map move (zip (cut lengths (flat_map index parts)) l)) (sym (cut-wholes items parts))

  pub gathered-joined : (parts : List P)
      → joined (map (λ p. gathered (index p) (items p)) parts) ≡ segmented_gather (map (λ p. length (items p)) parts) (flat_map items parts) (map (λ p. length (index p)) parts) (flat_map index parts)
  gathered-joined parts =
      let read : List X × List ℤ → List X = λ q. gathered q.1 q.0 in
      let lengths = map (λ (p : P). length (items p)) parts in
      each-pair (λ (xs : List X) (zs : List ℤ). gathered zs xs) items index parts
      ∙ ap (λ (l : List (List X)). flat_map read (zip l (map index parts))) (sym (cut-wholes items parts))
      ∙ ap (λ (l : List (List ℤ)). flat_map read (zip (cut lengths (flat_map items parts)) l)) (sym (cut-wholes index parts))

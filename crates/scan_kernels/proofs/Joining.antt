-- On joined operands a kernel gives what it gives on each part, joined: `map-joined`, `item_by_item-joined`, `selected-joined`,
-- `distributed-joined`, `segmented_index-joined`, `segmented_scan-joined`, `segmented_reduce-joined`. Where each part is one
-- segment: `scanned-joined`, `reduced-joined`, `replicate-joined`, `indexed-joined`. Lists of parts: `zip-append`, `cut-wholes`.
use Rattle.std.proofs.Common.{◌≡◌, ℕ, ℤ, List, [], ◌∷◌, ◌++◌, length, get_or, drop, map, replicate, sum, refl, sym, ap, ◌∙◌, All, zip, Bool, arith}
use Rattle.std.specs.List.{flat_map, AllByRecursion}
use Rattle.std.proofs.lemmas.List.{map-append}
use Rattle.std.proofs.lemmas.List.Concat.{flat_map-append}
use Rattle.std.proofs.lemmas.List.Elements.{recursion_from_All}
use Rattle.std.proofs.lemmas.Slice.Zip.{length-zip}
use Rattle.std.specs.Prelude.{if◌then◌else◌}
use Rattle.std.proofs.lemmas.Simd.{map-map}
use Rattle.std.proofs.Math.Seq.{take-append_seam, drop-append_seam}
use Rattle.segment_desc.specs.Cut.{cut, joined}
use Rattle.scan_kernels.specs.Distributed.{distributed}
use Rattle.scan_kernels.specs.Elementwise.{item_by_item, selected}
use Rattle.scan_kernels.specs.Indexed.{indexed, segmented_index}
use Rattle.scan_kernels.specs.Segmented.{reduced, scanned, segmented_scan, segmented_reduce}
use Rattle.scan_kernels.proofs.CutLists.{segmented_scan-append, segmented_reduce-append}

module _ {P X Y : Type 0} (f : X → Y) (first : P → List X) where
  pub map-joined : (parts : List P) → joined (map (λ p. map f (first p)) parts) ≡ map f (flat_map first parts)
  map-joined [] = refl
  map-joined (p ∷ ps) = ap (λ (l : List Y). map f (first p) ++ l) (map-joined ps) ∙ sym (map-append f (first p) (flat_map first ps))

pub zip-append : {X Y : Type 0} (xs more : List X) (ys others : List Y) → length xs ≡ length ys → zip (xs ++ more) (ys ++ others) ≡ zip xs ys ++ zip more others
zip-append [] more [] others h = refl
zip-append [] more (y ∷ ys) others h = absurd (omega arith)
zip-append (x ∷ xs) more [] others h = absurd (omega arith)
zip-append (x ∷ xs) more (y ∷ ys) others h = ap (λ l. (x, y) ∷ l) (zip-append xs more ys others (omega arith))

module _ {P X Y : Type 0} (first : P → List X) (second : P → List Y) where
  zip-by_recursion : (parts : List P) → AllByRecursion (λ p. length (first p) ≡ length (second p)) parts
      → flat_map (λ p. zip (first p) (second p)) parts ≡ zip (flat_map first parts) (flat_map second parts)
  zip-by_recursion [] h = refl
  zip-by_recursion (p ∷ ps) h =
      ap (λ (l : List (X × Y)). zip (first p) (second p) ++ l) (zip-by_recursion ps h.1)
      ∙ sym (zip-append (first p) (flat_map first ps) (second p) (flat_map second ps) h.0)

  -- lists of the same lengths, part for part, are paired part by part
  pub zip-joined : (parts : List P) → All (λ p. length (first p) ≡ length (second p)) parts
      → flat_map (λ p. zip (first p) (second p)) parts ≡ zip (flat_map first parts) (flat_map second parts)
  zip-joined parts h = zip-by_recursion parts (recursion_from_All _ parts h)

module _ {P X Y Z : Type 0} (f : X → Y → Z) (first : P → List X) (second : P → List Y) where
  pub item_by_item-joined : (parts : List P) → All (λ p. length (first p) ≡ length (second p)) parts
      → joined (map (λ p. item_by_item f (first p) (second p)) parts) ≡ item_by_item f (flat_map first parts) (flat_map second parts)
  item_by_item-joined parts h =
      map-joined (λ (q : X × Y). f q.0 q.1) (λ p. zip (first p) (second p)) parts ∙ ap (map (λ (q : X × Y). f q.0 q.1)) (zip-joined first second parts h)

module _ {P X : Type 0} (flags : P → List Bool) (first second : P → List X) where
  pub selected-joined : (parts : List P) → All (λ p. (length (flags p) ≡ length (first p)) × (length (flags p) ≡ length (second p))) parts
      → joined (map (λ p. selected (flags p) (first p) (second p)) parts) ≡ selected (flat_map flags parts) (flat_map first parts) (flat_map second parts)
  selected-joined parts h =
      let choose = λ (q : Bool × (X × X)). if q.0 then q.1.0 else q.1.1 in
      let pairs = zip-joined first second parts (λ i d lt. sym (h i d lt).0 ∙ (h i d lt).1) in
      let triples = zip-joined flags (λ p. zip (first p) (second p)) parts (λ i d lt. let long = length-zip (first (get_or parts i d)) (second (get_or parts i d)) in let same = h i d lt in omega arith) in
      map-joined choose (λ p. zip (flags p) (zip (first p) (second p))) parts ∙ ap (map choose) (triples ∙ ap (zip (flat_map flags parts)) pairs)

module _ {P X Y : Type 0} (f : X → List Y) (first : P → List X) where
  flat_map-joined : (parts : List P) → joined (map (λ p. flat_map f (first p)) parts) ≡ flat_map f (flat_map first parts)
  flat_map-joined [] = refl
  flat_map-joined (p ∷ ps) = ap (λ (l : List Y). flat_map f (first p) ++ l) (flat_map-joined ps) ∙ sym (flat_map-append f (first p) (flat_map first ps))

module _ {P X : Type 0} (lengths : P → List ℕ) (values : P → List X) where
  pub distributed-joined : (parts : List P) → All (λ p. length (lengths p) ≡ length (values p)) parts
      → joined (map (λ p. distributed (lengths p) (values p)) parts) ≡ distributed (flat_map lengths parts) (flat_map values parts)
  distributed-joined parts h =
      let spread = λ (q : ℕ × X). replicate q.0 q.1 in
      flat_map-joined spread (λ p. zip (lengths p) (values p)) parts ∙ ap (flat_map spread) (zip-joined lengths values parts h)

module _ {P : Type 0} (lengths : P → List ℕ) (starts strides : P → List ℤ) where
  pub segmented_index-joined : (parts : List P) → All (λ p. (length (lengths p) ≡ length (starts p)) × (length (lengths p) ≡ length (strides p))) parts
      → joined (map (λ p. segmented_index (lengths p) (starts p) (strides p)) parts) ≡ segmented_index (flat_map lengths parts) (flat_map starts parts) (flat_map strides parts)
  segmented_index-joined parts h =
      let rise = λ (q : ℕ × (ℤ × ℤ)). indexed q.1.0 q.1.1 q.0 in
      let pairs = zip-joined starts strides parts (λ i d lt. sym (h i d lt).0 ∙ (h i d lt).1) in
      let triples = zip-joined lengths (λ p. zip (starts p) (strides p)) parts (λ i d lt. let long = length-zip (starts (get_or parts i d)) (strides (get_or parts i d)) in let same = h i d lt in omega arith) in
      flat_map-joined rise (λ p. zip (lengths p) (zip (starts p) (strides p))) parts ∙ ap (flat_map rise) (triples ∙ ap (zip (flat_map lengths parts)) pairs)

module _ {P X : Type 0} (op : X → X → X) (u : X) (lengths : P → List ℕ) (items : P → List X) where
  scans : (parts : List P) → AllByRecursion (λ p. sum (lengths p) ≡ length (items p)) parts
      → joined (map (λ p. segmented_scan op u (lengths p) (items p)) parts) ≡ segmented_scan op u (flat_map lengths parts) (flat_map items parts)
  scans [] h = refl
  scans (p ∷ ps) h =
      ap (λ (l : List X). segmented_scan op u (lengths p) (items p) ++ l) (scans ps h.1)
      ∙ sym (segmented_scan-append op u (lengths p) (flat_map lengths ps) (items p) (flat_map items ps) h.0)

  reductions : (parts : List P) → AllByRecursion (λ p. sum (lengths p) ≡ length (items p)) parts
      → joined (map (λ p. segmented_reduce op u (lengths p) (items p)) parts) ≡ segmented_reduce op u (flat_map lengths parts) (flat_map items parts)
  reductions [] h = refl
  reductions (p ∷ ps) h =
      ap (λ (l : List X). segmented_reduce op u (lengths p) (items p) ++ l) (reductions ps h.1)
      ∙ sym (segmented_reduce-append op u (lengths p) (flat_map lengths ps) (items p) (flat_map items ps) h.0)

  pub segmented_scan-joined : (parts : List P) → All (λ p. sum (lengths p) ≡ length (items p)) parts
      → joined (map (λ p. segmented_scan op u (lengths p) (items p)) parts) ≡ segmented_scan op u (flat_map lengths parts) (flat_map items parts)
  segmented_scan-joined parts h = scans parts (recursion_from_All _ parts h)

  pub segmented_reduce-joined : (parts : List P) → All (λ p. sum (lengths p) ≡ length (items p)) parts
      → joined (map (λ p. segmented_reduce op u (lengths p) (items p)) parts) ≡ segmented_reduce op u (flat_map lengths parts) (flat_map items parts)
  segmented_reduce-joined parts h = reductions parts (recursion_from_All _ parts h)

module _ {P X : Type 0} (items : P → List X) where
  -- joined lists are cut into the parts that they were joined of
  pub cut-wholes : (parts : List P) → cut (map (λ p. length (items p)) parts) (flat_map items parts) ≡ map items parts
  cut-wholes [] = refl
  cut-wholes (p ∷ ps) =
      let later = flat_map items ps in
      let ls = map (λ (q : P). length (items q)) ps in
      ap (λ (l : List X). l ∷ cut ls (drop (length (items p)) (items p ++ later))) (take-append_seam (items p) later)
      ∙ ap (λ (d : List X). items p ∷ cut ls d) (drop-append_seam (items p) later)
      ∙ ap (λ (l : List (List X)). items p ∷ l) (cut-wholes ps)

  each-whole : {Y : Type 0} (f : List X → List Y) (parts : List P) → joined (map (λ p. f (items p)) parts) ≡ flat_map f (map items parts)
  each-whole f [] = refl
  each-whole f (p ∷ ps) = ap (λ l. f (items p) ++ l) (each-whole f ps)

-- parts of which each is one segment
module _ {P X : Type 0} (op : X → X → X) (u : X) (items : P → List X) where
  pub scanned-joined : (parts : List P)
      → joined (map (λ p. scanned op u (items p)) parts) ≡ segmented_scan op u (map (λ p. length (items p)) parts) (flat_map items parts)
  scanned-joined parts = each-whole items (scanned op u) parts ∙ sym (ap (flat_map (scanned op u)) (cut-wholes items parts))

  pub reduced-joined : (parts : List P)
      → map (λ p. reduced op u (items p)) parts ≡ segmented_reduce op u (map (λ p. length (items p)) parts) (flat_map items parts)
  reduced-joined parts = sym (map-map (reduced op u) items parts) ∙ sym (ap (map (reduced op u)) (cut-wholes items parts))

module _ {P X : Type 0} (count : P → ℕ) (item : P → X) where
  pub replicate-joined : (parts : List P) → joined (map (λ p. replicate (count p) (item p)) parts) ≡ distributed (map count parts) (map item parts)
  replicate-joined [] = refl
  replicate-joined (p ∷ ps) = ap (λ (l : List X). replicate (count p) (item p) ++ l) (replicate-joined ps)

module _ {P : Type 0} (count : P → ℕ) (start stride : P → ℤ) where
  pub indexed-joined : (parts : List P)
      → joined (map (λ p. indexed (start p) (stride p) (count p)) parts) ≡ segmented_index (map count parts) (map start parts) (map stride parts)
  indexed-joined [] = refl
  indexed-joined (p ∷ ps) = ap (λ (l : List ℤ). indexed (start p) (stride p) (count p) ++ l) (indexed-joined ps)

-- The kernels give on joined operands what they give on each, joined: `segmented_permute-append`,
-- `segmented_gather-append`, `numbers_set-append`.
use Rattle.std.proofs.Common.{◌≡◌, ℕ, List, ◌++◌, length, map, sym, ap, ◌∙◌, sum, zip, ℤ, pos, Bool}
use Rattle.std.specs.List.{flat_map}
use Rattle.std.proofs.lemmas.List.{map-append}
use Rattle.std.proofs.lemmas.List.Concat.{flat_map-append}
use Rattle.segment_desc.specs.Cut.{cut}
use Rattle.scan_kernels.proofs.CutLists.{cut-append}
use Rattle.scan_kernels.proofs.Joining.{zip-append}
use Rattle.scan_kernels.specs.Gathered.{gathered, segmented_gather}
use Rattle.scan_kernels.specs.Packed.{number_set, numbers_set}
use Rattle.scan_kernels.specs.Permuted.{permuted, segmented_permute}
use Rattle.scan_kernels.proofs.Segments.{length_cut}

module _ {X : Type 0} where
  pub segmented_permute-append : (ks ls : List ℕ) (is js : List ℤ) (xs ys : List X) → sum ks ≡ length is → sum ks ≡ length xs
      → segmented_permute (ks ++ ls) (is ++ js) (xs ++ ys) ≡ segmented_permute ks is xs ++ segmented_permute ls js ys
  segmented_permute-append ks ls is js xs ys total same =
      let move : List ℤ × List X → List X = λ p. permuted p.0 p.1 in
      ap (λ a. flat_map move (zip a (cut (ks ++ ls) (xs ++ ys)))) (cut-append ks ls is js total)
      ∙ ap (λ b. flat_map move (zip (cut ks is ++ cut ls js) b)) (cut-append ks ls xs ys same)
      ∙ ap (flat_map move) (zip-append (cut ks is) (cut ls js) (cut ks xs) (cut ls ys) (length_cut ks is ∙ sym (length_cut ks xs)))
      ∙ flat_map-append move (zip (cut ks is) (cut ks xs)) (zip (cut ls js) (cut ls ys))

  pub segmented_gather-append : (ss ts us vs : List ℕ) (xs ys : List X) (is js : List ℤ) → length ss ≡ length ts → sum ss ≡ length xs → sum ts ≡ length is
      → segmented_gather (ss ++ us) (xs ++ ys) (ts ++ vs) (is ++ js) ≡ segmented_gather ss xs ts is ++ segmented_gather us ys vs js
  segmented_gather-append ss ts us vs xs ys is js counts source total =
      let read : List X × List ℤ → List X = λ p. gathered p.1 p.0 in
      ap (λ a. flat_map read (zip a (cut (ts ++ vs) (is ++ js)))) (cut-append ss us xs ys source)
      ∙ ap (λ b. flat_map read (zip (cut ss xs ++ cut us ys) b)) (cut-append ts vs is js total)
      ∙ ap (flat_map read) (zip-append (cut ss xs) (cut us ys) (cut ts is) (cut vs js) (length_cut ss xs ∙ counts ∙ sym (length_cut ts is)))
      ∙ flat_map-append read (zip (cut ss xs) (cut ts is)) (zip (cut us ys) (cut vs js))

pub numbers_set-append : (ks ls : List ℕ) (fs gs : List Bool) → sum ks ≡ length fs → numbers_set (ks ++ ls) (fs ++ gs) ≡ numbers_set ks fs ++ numbers_set ls gs
numbers_set-append ks ls fs gs total =
    ap (map (λ segment. pos (number_set segment))) (cut-append ks ls fs gs total) ∙ map-append (λ segment. pos (number_set segment)) (cut ks fs) (cut ls gs)

-- Items that are written to the places of an index: `placed_more` (one more item), `placed_all`, and `permuted_more` (one
-- more segment).
use Rattle.std.proofs.Common.{◌≡◌, ℕ, ◌+◌, ◌-◌, ◌<◌, ◌≤◌, List, [], ◌∷◌, ◌++◌, length, take, drop, set, sym, ap, subst, ◌∙◌, get_or, sum, zip, ℤ, pos, Some, arith, get_or-set_same, get_or-set_other, inl, inr}
use Rattle.std.specs.List.{AllZip, slice_get}
use Rattle.std.proofs.lemmas.Bool.{cases_eq}
use Rattle.std.proofs.lemmas.List.{length-append, length-drop, length-set, length-take-le, take_all}
use Rattle.std.proofs.lemmas.Option.{get_or_from_slice_get, slice_get-get_or, slice_get_within}
use Rattle.std.proofs.lemmas.Slice.{take-put_mid_below, between-put_mid}
use borrow.Rule.Slice.PartMut.{put_mid}
use Rattle.segment_desc.specs.Cut.{cut}
use Rattle.scan_kernels.proofs.NextSegment.{segment_within}
use Rattle.scan_kernels.proofs.Places.{place_below, same_place}
use Rattle.scan_kernels.specs.Indices.{HoldsEachPlaceOnce}
use Rattle.scan_kernels.specs.Permuted.{IsPermuted, IsPermutedBySegments}
use Rattle.scan_kernels.proofs.Counting.{each_inside, held_apart}
use Rattle.scan_kernels.proofs.Segments.{AllZip_push, cut_more, cut_same, length_cut, length_segment, zip_push}

-- the items before i are at their places
abbrev pub PlacedBefore : {X : Type 0} → List ℤ → List X → ℕ → List X → Type 0
PlacedBefore index items i made = (k p : ℕ) → k < i → slice_get index k ≡ Some (pos p) → slice_get made p ≡ slice_get items k

module _ {X : Type 0} (index : List ℤ) (items made : List X) where
  pub placed_more : (i q : ℕ) (x : X) → HoldsEachPlaceOnce index → length index ≡ length items → length made ≡ length items → i < length items → get_or index i (pos 0) ≡ pos q → x ≡ get_or items i x → PlacedBefore index items i made → PlacedBefore index items (i + 1) (set made q x)
  placed_more i q x once same room lt here item before k p more holds =
      let there : get_or index k (pos 0) ≡ pos p = get_or_from_slice_get index k (pos p) (pos 0) holds in
      let within = slice_get_within index k (pos p) holds in
      let place = place_below (length index) p (get_or index k (pos 0)) (each_inside index once k (pos 0) within) there in
      let long = length-set made q x in
      let read = slice_get-get_or (set made q x) p x (omega arith) in
      elim (cases_eq k i) [
        | inl e ↦
            let one : p ≡ q = same_place p q (sym there ∙ ap (λ j. get_or index j (pos 0)) e ∙ here) in
            let written : get_or (set made q x) p x ≡ x = ap (λ j. get_or (set made q x) j x) one ∙ get_or-set_same made q x x (omega arith) in
            read ∙ ap Some (written ∙ item) ∙ sym (slice_get-get_or items i x lt) ∙ ap (slice_get items) (sym e)
        | inr ne ↦
            let earlier : k < i = omega (arith, ne) in
            let apart : p ≡ q → ⊥ = λ e. held_apart index q k i once (omega arith) earlier (omega arith) (there ∙ ap pos e) here in
            read ∙ ap Some (get_or-set_other made q p x x apart) ∙ sym (slice_get-get_or made p x (omega arith)) ∙ before k p earlier holds
      ]

  pub placed_all : (i : ℕ) → length index ≤ i → length made ≡ length items → PlacedBefore index items i made → IsPermuted index items made
  placed_all i past long before = (long, λ k p holds. let within = slice_get_within index k (pos p) holds in before k p (omega arith) holds)

length-put_mid : {X : Type 0} (a k : ℕ) (xs ys : List X) → a + k ≤ length xs → length ys ≡ k → length (put_mid a k xs ys) ≡ length xs
length-put_mid a k xs ys within long =
    let rest = drop k (drop a xs) in
    omega (arith, length-append (take a xs) (ys ++ rest), length-append ys rest, length-take-le a xs (omega arith), length-drop k (drop a xs), length-drop a xs)

-- a segment that is written leaves the length
pub length_written : {X : Type 0} (ls : List ℕ) (i at : ℕ) (index : List ℤ) (items made segment : List X) → i < length ls → at ≡ sum (take i ls) → sum ls ≡ length index → length index ≡ length items → length made ≡ length items
    → IsPermuted (take (at + get_or ls i 0 - at) (drop at index)) (take (at + get_or ls i 0 - at) (drop at items)) segment
    → length (put_mid at (at + get_or ls i 0 - at) made segment) ≡ length items
length_written ls i at index items made segment lt e total same room one =
    let within = segment_within ls i at (length index) lt e total in
    let long = length_segment ls i at items lt e (total ∙ same) in
    length-put_mid at (at + get_or ls i 0 - at) made segment (omega arith) (omega (arith, one.0)) ∙ room

-- one more segment of a list is permuted
pub permuted_more : {X : Type 0} (ls : List ℕ) (i at : ℕ) (index : List ℤ) (items made segment : List X) → i < length ls → at ≡ sum (take i ls) → sum ls ≡ length index → length index ≡ length items → length made ≡ length items
    → AllZip (λ p ys. IsPermuted p.0 p.1 ys) (zip (cut (take i ls) index) (cut (take i ls) items)) (cut (take i ls) made)
    → IsPermuted (take (at + get_or ls i 0 - at) (drop at index)) (take (at + get_or ls i 0 - at) (drop at items)) segment
    → AllZip (λ p ys. IsPermuted p.0 p.1 ys) (zip (cut (take (i + 1) ls) index) (cut (take (i + 1) ls) items)) (cut (take (i + 1) ls) (put_mid at (at + get_or ls i 0 - at) made segment))
permuted_more {X} ls i at index items made segment lt e total same room done one =
    let R : List ℤ × List X → List X → Type 0 = λ p ys. IsPermuted p.0 p.1 ys in
    let l = get_or ls i 0 in
    let after = put_mid at (at + l - at) made segment in
    let within = segment_within ls i at (length index) lt e total in
    let long = length_segment ls i at items lt e (total ∙ same) in
    let front : take at after ≡ take at made = take-put_mid_below at (at + l - at) made segment at (omega arith) (omega arith) in
    let middle : take (at + l - at) (drop at after) ≡ segment = between-put_mid at (at + l - at) made segment (at + l) (omega arith) (omega (arith, one.0)) in
    let holds = take (at + l - at) (drop at index) in
    let moved = take (at + l - at) (drop at items) in
    let pairs : zip (cut (take (i + 1) ls) index) (cut (take (i + 1) ls) items) ≡ zip (cut (take i ls) index) (cut (take i ls) items) ++ (holds, moved) ∷ [] =
    ap (λ a. zip a (cut (take (i + 1) ls) items)) (cut_more ls i at index lt e)
    ∙ ap (λ b. zip (cut (take i ls) index ++ holds ∷ []) b) (cut_more ls i at items lt e)
    ∙ zip_push (cut (take i ls) index) (cut (take i ls) items) holds moved (length_cut (take i ls) index ∙ sym (length_cut (take i ls) items)) in
    let results : cut (take (i + 1) ls) after ≡ cut (take i ls) made ++ segment ∷ [] =
    cut_more ls i at after lt e
    ∙ ap (λ b. cut (take i ls) after ++ b ∷ []) middle
    ∙ ap (λ a. a ++ segment ∷ []) (cut_same (take i ls) at after made (sym e) front) in
    let pushed = AllZip_push R (zip (cut (take i ls) index) (cut (take i ls) items)) (cut (take i ls) made) (holds, moved) segment done one in
    subst (λ a. AllZip R a (cut (take (i + 1) ls) after)) (sym pairs) (subst (AllZip R (zip (cut (take i ls) index) (cut (take i ls) items) ++ (holds, moved) ∷ [])) (sym results) pushed)

pub permuted_by_all : {X : Type 0} (ls : List ℕ) (i : ℕ) (index : List ℤ) (items made : List X) → length ls ≤ i → length made ≡ length items
    → AllZip (λ p ys. IsPermuted p.0 p.1 ys) (zip (cut (take i ls) index) (cut (take i ls) items)) (cut (take i ls) made)
    → IsPermutedBySegments ls index items made
permuted_by_all {X} ls i index items made past long done =
    (long, subst (λ ks. AllZip {A = List ℤ × List X} {B = List X} (λ p ys. IsPermuted p.0 p.1 ys) (zip (cut ks index) (cut ks items)) (cut ks made)) (take_all i ls past) done)

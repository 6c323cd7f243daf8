-- Lists that are joined: `segment-run` (items of one of them, from a place in it on), `length-joined` (how many items there are).
use Rattle.std.proofs.Common.{◌≡◌, ℕ, zero, suc, ◌+◌, ◌<◌, ◌≤◌, List, [], ◌∷◌, ◌++◌, length, take, drop, map, sum, refl, ap, ◌∙◌, get_or, arith, length-append}
use Rattle.std.proofs.lemmas.List.{drop-append-le, take-append-le, length-drop}
use Rattle.std.proofs.lemmas.List.Sums.{sum_by-cons}
use Rattle.std.proofs.Math.Seq.{drop-append-add}
use Rattle.segment_desc.specs.Cut.{joined}

module _ {X : Type 0} where
  pub length-joined : (zss : List (List X)) → length (joined zss) ≡ sum (map length zss)
  length-joined [] = refl
  length-joined (zs ∷ zss) = omega (arith, length-append zs (joined zss), sum_by-cons (λ (n : ℕ). n) (length zs) (map length zss), length-joined zss)

  pub segment-run : (zss : List (List X)) (n b j r : ℕ) → n < length zss → b ≡ sum (take n (map length zss)) → j + r ≤ length (get_or zss n [])
      → take r (drop (b + j) (joined zss)) ≡ take r (drop j (get_or zss n []))
  segment-run [] n b j r h e within = absurd (omega arith)
  segment-run (zs ∷ zss) zero b j r h e within =
      let rest = joined zss in
      let none : b + j ≡ j = omega arith in
      ap (λ k. take r (drop k (zs ++ rest))) none
      ∙ ap (take r) (drop-append-le j zs rest (omega arith))
      ∙ take-append-le r (drop j zs) rest (omega (arith, length-drop j zs))
  segment-run (zs ∷ zss) (suc n) b j r h e within =
      let later = sum (take n (map length zss)) in
      let place : b + j ≡ length zs + (later + j) = omega (arith, sum_by-cons (λ (k : ℕ). k) (length zs) (take n (map length zss))) in
      ap (λ k. take r (drop k (zs ++ joined zss))) place
      ∙ ap (take r) (drop-append-add zs (joined zss) (later + j))
      ∙ segment-run zss n later j r (omega arith) refl within

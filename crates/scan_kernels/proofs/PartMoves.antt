-- A part of a list that an index moves, from a place on: `part_hit` and `part_missed` (one more item, which falls into the part
-- or does not), `part_whole`. `falls_into`: which places do.
use Rattle.std.proofs.Common.{◌≡◌, ℕ, ◌+◌, ◌<◌, ◌≤◌, ◌^◌, List, length, take, drop, set, sym, ap, ◌∙◌, get_or, ℤ, pos, Some, arith, get_or-set_same, get_or-set_other, inl, inr}
use Rattle.std.specs.List.{slice_get}
use Rattle.std.proofs.lemmas.Bool.{cases_eq, cases_lt}
use Rattle.std.proofs.lemmas.List.{get_or-drop, get_or-take, length-drop, length-set, length-take-le, same_lists}
use Rattle.std.proofs.lemmas.Option.{get_or_from_slice_get, slice_get-get_or, slice_get_within}
use Rattle.scan_kernels.specs.Indices.{HoldsEachPlaceOnce}
use Rattle.scan_kernels.specs.Permuted.{permuted}
use Rattle.scan_kernels.proofs.Counting.{held_apart}
use Rattle.scan_kernels.proofs.Places.{same_place}
use Rattle.scan_kernels.proofs.Sending.{sent_one}
use Rattle.scan_kernels.proofs.UndoneMoves.{IsPermuted-permuted}

pub falls_into : (start q b n : ℕ) → (start ≤ q → start + b ≡ q) → (q < start → 2 ^ 64 ≤ start + b) → b < n → start + n < 2 ^ 64 → q ≡ start + b
falls_into start q b n later before lt small =
    elim (cases_lt q start) [ inl front ↦ absurd (omega (arith, before front)) | inr rest ↦ sym (later (omega (arith, rest))) ]

-- of the first i items, those that go to a place of the part are there
abbrev pub PartPlaced : {X : Type 0} → List ℤ → List X → ℕ → ℕ → List X → Type 0
PartPlaced index items start i part = (k j : ℕ) → k < i → j < length part → slice_get index k ≡ Some (pos (start + j)) → slice_get part j ≡ slice_get items k

module _ {X : Type 0} (index : List ℤ) (items part : List X) (start i : ℕ) where
  pub part_missed : (q : ℕ) → get_or index i (pos 0) ≡ pos q → ((j : ℕ) → j < length part → q ≡ start + j → ⊥) → PartPlaced index items start i part → PartPlaced index items start (i + 1) part
  part_missed q here apart before k j more within holds =
      elim (cases_eq k i) [
        | inl e ↦ absurd (apart j within (same_place q (start + j) (sym here ∙ ap (λ n. get_or index n (pos 0)) (sym e) ∙ get_or_from_slice_get index k (pos (start + j)) (pos 0) holds)))
        | inr ne ↦ before k j (omega (arith, ne)) within holds
      ]

  pub part_hit : (q b : ℕ) (x : X) → HoldsEachPlaceOnce index → length index ≡ length items → start + length part ≤ length index → i < length index → get_or index i (pos 0) ≡ pos q → q ≡ start + b → b < length part
      → x ≡ get_or items i x → PartPlaced index items start i part → PartPlaced index items start (i + 1) (set part b x)
  part_hit q b x once same inside lt here place room item before k j more within holds =
      let long = length-set part b x in
      let there : get_or index k (pos 0) ≡ pos (start + j) = get_or_from_slice_get index k (pos (start + j)) (pos 0) holds in
      let read = slice_get-get_or (set part b x) j x within in
      elim (cases_eq k i) [
        | inl e ↦
            let one : q ≡ start + j = same_place q (start + j) (sym here ∙ ap (λ n. get_or index n (pos 0)) (sym e) ∙ there) in
            let at : j ≡ b = omega arith in
            let written : get_or (set part b x) j x ≡ x = ap (λ n. get_or (set part b x) n x) at ∙ get_or-set_same part b x x room in
            read ∙ ap Some (written ∙ item) ∙ sym (slice_get-get_or items i x (omega arith)) ∙ ap (slice_get items) (sym e)
        | inr ne ↦
            let earlier : k < i = omega (arith, ne) in
            let apart : j ≡ b → ⊥ = λ e. held_apart index q k i once (omega arith) earlier lt (there ∙ ap (λ n. pos (start + n)) e ∙ ap pos (sym place)) here in
            read ∙ ap Some (get_or-set_other part b j x x apart) ∙ sym (slice_get-get_or part j x (omega arith)) ∙ before k j earlier (omega arith) holds
      ]

  pub part_whole : HoldsEachPlaceOnce index → length index ≡ length items → start + length part ≤ length (permuted index items) → length index ≤ i → PartPlaced index items start i part
      → part ≡ take (length part) (drop start (permuted index items))
  part_whole once same inside past placed =
      let ys = permuted index items in
      let moved = IsPermuted-permuted index items once same in
      let rest = length-drop start ys in
      let long : length (take (length part) (drop start ys)) ≡ length part = length-take-le (length part) (drop start ys) (omega arith) in
      same_lists part (take (length part) (drop start ys)) (sym long) (λ j d lt.
      let one = sent_one index items once same (start + j) (omega (arith, moved.0)) in
      let within = slice_get_within index one.0 (pos (start + j)) one.2 in
      let left : slice_get part j ≡ Some one.1 = placed one.0 j (omega arith) lt one.2 ∙ one.3 in
      let right : slice_get ys (start + j) ≡ Some one.1 = moved.1 one.0 (start + j) one.2 ∙ one.3 in
      get_or_from_slice_get part j one.1 d left
      ∙ sym (get_or-take (length part) (drop start ys) j d lt ∙ get_or-drop start ys j d ∙ get_or_from_slice_get ys (start + j) one.1 d right))

-- Packs of lists that are cut into segments: `joined_packed` (the packed segments joined), `packed_lengths` (how long they are).
-- A pack from a place on: `packed_behind` (behind so many items), `packed_first` (what the first flags keep). By
-- the number of a segment: `packed_many`, `packed_is`, `packed_same`. One more flag: `packed_yes`, `packed_no`, `number_yes`, `number_no`.
use Rattle.std.proofs.Common.{◌≡◌, ℕ, ◌+◌, ◌<◌, ◌≤◌, List, [], ◌∷◌, ◌++◌, length, take, drop, map, zip, refl, sym, ap, ◌∙◌, get_or, sum, Bool, true, false, arith, inl, inr}
use Rattle.std.proofs.lemmas.List.{append-nil, length-drop, length-take, length-take-le, take-append-drop, take-append-le, take-take, take_all, take_more}
use Rattle.std.proofs.lemmas.List.Sums.{count_by_more_no, count_by_more_yes, sum_by-cons}
use Rattle.std.proofs.lemmas.Bool.{cases_lt}
use Rattle.std.proofs.lemmas.Slice.{take-put_mid}
use Rattle.std.proofs.Math.Seq.{drop-append_seam, take-add, take-append-add}
use borrow.Rule.Slice.PartMut.{put_mid}
use Rattle.segment_desc.specs.Cut.{cut, joined}
use Rattle.scan_kernels.specs.Packed.{each_number, number_set, packed}
use Rattle.scan_kernels.proofs.PackedLists.{length-packed, packed-append}
use Rattle.scan_kernels.proofs.SegmentLists.{segment_is, segments_many}
use Rattle.scan_kernels.proofs.Segments.{length_cut, segment_at}

module _ {X : Type 0} where
  -- the pack of the first items, and of the others
  pub packed_parts : (at : ℕ) (flags : List Bool) (xs : List X) → length flags ≡ length xs → at ≤ length flags
      → packed flags xs ≡ packed (take at flags) (take at xs) ++ packed (drop at flags) (drop at xs)
  packed_parts at flags xs same within =
      ap (λ fs. packed fs xs) (sym (take-append-drop at flags))
      ∙ ap (packed (take at flags ++ drop at flags)) (sym (take-append-drop at xs))
      ∙ packed-append (take at flags) (drop at flags) (take at xs) (drop at xs) (omega (arith, length-take-le at flags within, length-take-le at xs (omega arith)))

  pub joined_packed : (ls : List ℕ) (flags : List Bool) (xs : List X) → sum ls ≡ length flags → length flags ≡ length xs
      → joined (map (λ p. packed p.0 p.1) (zip (cut ls flags) (cut ls xs))) ≡ packed flags xs
  joined_packed [] [] [] total same = refl
  joined_packed [] [] (x ∷ xs) total same = absurd (omega arith)
  joined_packed [] (b ∷ flags) xs total same = absurd (omega arith)
  joined_packed (l ∷ ls) flags xs total same =
      let lengths = sum_by-cons (λ (n : ℕ). n) l ls in
      let rest : sum ls ≡ length (drop l flags) = omega (arith, length-drop l flags) in
      let also : length (drop l flags) ≡ length (drop l xs) = omega (arith, length-drop l flags, length-drop l xs) in
      ap (λ zs. packed (take l flags) (take l xs) ++ zs) (joined_packed ls (drop l flags) (drop l xs) rest also)
      ∙ sym (packed_parts l flags xs same (omega arith))

  pub packed_lengths : (ls : List ℕ) (flags : List Bool) (xs : List X) → sum ls ≡ length flags → length flags ≡ length xs
      → each_number ls flags ≡ map length (map (λ p. packed p.0 p.1) (zip (cut ls flags) (cut ls xs)))
  packed_lengths [] flags xs total same = refl
  packed_lengths (l ∷ ls) flags xs total same =
      let lengths = sum_by-cons (λ (n : ℕ). n) l ls in
      let rest : sum ls ≡ length (drop l flags) = omega (arith, length-drop l flags) in
      let also : length (drop l flags) ≡ length (drop l xs) = omega (arith, length-drop l flags, length-drop l xs) in
      let first : length (take l flags) ≡ length (take l xs) = omega (arith, length-take-le l flags (omega arith), length-take-le l xs (omega arith)) in
      ap (λ n. n ∷ each_number ls (drop l flags)) (sym (length-packed (take l flags) (take l xs) first))
      ∙ ap (λ ns. length (packed (take l flags) (take l xs)) ∷ ns) (packed_lengths ls (drop l flags) (drop l xs) rest also)

  -- behind as many items as the first flags keep come those that the others keep
  pub packed_behind : (at n : ℕ) (flags : List Bool) (xs : List X) → length flags ≡ length xs → at ≤ length flags → number_set (take at flags) ≡ n
      → drop n (packed flags xs) ≡ packed (drop at flags) (drop at xs)
  packed_behind at n flags xs same within number =
      let front = packed (take at flags) (take at xs) in
      let long : length front ≡ n = length-packed (take at flags) (take at xs) (omega (arith, length-take-le at flags within, length-take-le at xs (omega arith))) ∙ number in
      ap (drop n) (packed_parts at flags xs same within)
      ∙ ap (λ k. drop k (front ++ packed (drop at flags) (drop at xs))) (sym long)
      ∙ drop-append_seam front (packed (drop at flags) (drop at xs))

  -- as many items as the first flags keep are what these keep
  pub packed_first : (at n : ℕ) (flags : List Bool) (xs : List X) → length flags ≡ length xs → at ≤ length flags → n ≤ length (packed (take at flags) (take at xs))
      → take n (packed flags xs) ≡ take n (packed (take at flags) (take at xs))
  packed_first at n flags xs same within few =
      ap (take n) (packed_parts at flags xs same within) ∙ take-append-le n (packed (take at flags) (take at xs)) (packed (drop at flags) (drop at xs)) few

-- the packs of segments, by their number
module _ {X : Type 0} (ls : List ℕ) (flags : List Bool) (xs : List X) where
  pub packed_many : length (map (λ (p : List Bool × List X). packed p.0 p.1) (zip (cut ls flags) (cut ls xs))) ≡ length ls
  packed_many =
      let first = length_cut ls flags in
      let second = length_cut ls xs in
      segments_many (λ (p : List Bool × List X). packed p.0 p.1) (cut ls flags) (cut ls xs) (omega arith) ∙ first

  pub packed_is : (n at : ℕ) → n < length ls → at ≡ sum (take n ls)
      → get_or (map (λ (p : List Bool × List X). packed p.0 p.1) (zip (cut ls flags) (cut ls xs))) n [] ≡ packed (take (get_or ls n 0) (drop at flags)) (take (get_or ls n 0) (drop at xs))
  packed_is n at h e =
      let first = length_cut ls flags in
      let second = length_cut ls xs in
      let l = get_or ls n 0 in
      segment_is (λ (p : List Bool × List X). packed p.0 p.1) (cut ls flags) (cut ls xs) n [] [] (omega arith) (omega arith)
      ∙ ap (λ fs. packed fs (get_or (cut ls xs) n [])) (segment_at ls flags n [] h ∙ ap (λ k. take l (drop k flags)) (sym e))
      ∙ ap (packed (take l (drop at flags))) (segment_at ls xs n [] h ∙ ap (λ k. take l (drop k xs)) (sym e))

  pub packed_same : (n at : ℕ) → length flags ≡ length xs → length (take n (drop at flags)) ≡ length (take n (drop at xs))
  packed_same n at same = omega (arith, length-take n (drop at flags), length-drop at flags, length-take n (drop at xs), length-drop at xs)

-- one more flag and item
module _ {X : Type 0} where
  packed_none : (zs : List X) → packed (false ∷ []) zs ≡ []
  packed_none [] = refl
  packed_none (z ∷ zs) = refl

  pub packed_yes : (flags : List Bool) (xs : List X) (i : ℕ) (x : X) → i < length flags → length flags ≡ length xs → x ≡ get_or xs i x → get_or flags i false ≡ true
      → packed (take (i + 1) flags) (take (i + 1) xs) ≡ packed (take i flags) (take i xs) ++ x ∷ []
  packed_yes flags xs i x within same is flag =
      ap (λ fs. packed fs (take (i + 1) xs)) (take_more flags i false within ∙ ap (λ f. take i flags ++ f ∷ []) flag)
      ∙ ap (packed (take i flags ++ true ∷ [])) (take_more xs i x (omega arith) ∙ ap (λ y. take i xs ++ y ∷ []) (sym is))
      ∙ packed-append (take i flags) (true ∷ []) (take i xs) (x ∷ []) (omega (arith, length-take-le i flags (omega arith), length-take-le i xs (omega arith)))

  pub packed_no : (flags : List Bool) (xs : List X) (i : ℕ) → i < length flags → length flags ≡ length xs → get_or flags i false ≡ false
      → packed (take (i + 1) flags) (take (i + 1) xs) ≡ packed (take i flags) (take i xs)
  packed_no flags xs i within same flag =
      ap (λ fs. packed fs (take (i + 1) xs)) (take_more flags i false within ∙ ap (λ f. take i flags ++ f ∷ []) flag)
      ∙ ap (packed (take i flags ++ false ∷ [])) (take-add i 1 xs)
      ∙ packed-append (take i flags) (false ∷ []) (take i xs) (take 1 (drop i xs)) (omega (arith, length-take-le i flags (omega arith), length-take-le i xs (omega arith)))
      ∙ ap (λ l. packed (take i flags) (take i xs) ++ l) (packed_none (take 1 (drop i xs)))
      ∙ append-nil (packed (take i flags) (take i xs))

  -- the pack goes on behind what the first flags keep
  pub packed_on : (at m n : ℕ) (flags : List Bool) (xs : List X) → length flags ≡ length xs → at ≤ length flags → n ≡ number_set (take at flags)
      → take (n + m) (packed flags xs) ≡ packed (take at flags) (take at xs) ++ take m (packed (drop at flags) (drop at xs))
  packed_on at m n flags xs same within number =
      let front = packed (take at flags) (take at xs) in
      let long : length front ≡ n = length-packed (take at flags) (take at xs) (omega (arith, length-take-le at flags within, length-take-le at xs (omega arith))) ∙ sym number in
      ap (take (n + m)) (packed_parts at flags xs same within)
      ∙ ap (λ k. take (k + m) (front ++ packed (drop at flags) (drop at xs))) (sym long)
      ∙ take-append-add front (packed (drop at flags) (drop at xs)) m

pub number_yes : (flags : List Bool) (i : ℕ) → i < length flags → get_or flags i false ≡ true → number_set (take (i + 1) flags) ≡ number_set (take i flags) + 1
number_yes flags i h flag = count_by_more_yes (λ b. b) flags i false h flag

pub number_no : (flags : List Bool) (i : ℕ) → i < length flags → get_or flags i false ≡ false → number_set (take (i + 1) flags) ≡ number_set (take i flags)
number_no flags i h flag = count_by_more_no (λ b. b) flags i false h flag

-- more items are kept than those of the first flags, so there are more flags
pub flags_left : (flags : List Bool) (at done n : ℕ) → done ≡ number_set (take at flags) → done < n → n ≤ number_set flags → at < length flags
flags_left flags at done n number more within =
    elim (cases_lt at (length flags)) [ inl lt ↦ lt | inr past ↦ absurd (omega (arith, ap number_set (take_all at flags (omega arith)))) ]

-- the front of what is written over a part behind a place
pub front_of_mid : {X : Type 0} (a r k : ℕ) (xs ys : List X) → a ≤ length xs → r ≤ length ys → take (a + r) (put_mid a k xs ys) ≡ take a xs ++ take r ys
front_of_mid a r k xs ys within few =
    let long = length-take-le a xs within in
    sym (take-take (a + r) (a + length ys) (put_mid a k xs ys) (omega arith))
    ∙ ap (take (a + r)) (take-put_mid a k xs ys (a + length ys) refl within)
    ∙ ap (λ n. take (n + r) (take a xs ++ ys)) (sym long)
    ∙ take-append-add (take a xs) ys r

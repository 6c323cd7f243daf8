-- Items that are kept by a flag: `compressed_more` (one more item), `block_more` (one more block).
use Rattle.std.proofs.Common.{◌≡◌, ℕ, ◌+◌, ◌-◌, ◌<◌, ◌≤◌, List, [], ◌∷◌, ◌++◌, length, set, take, drop, map, refl, sym, ap, ◌∙◌, get_or, zip, Bool, true, false, cond, add-zero, arith}
use Rattle.std.specs.List.{filter}
use Rattle.std.proofs.lemmas.List.{append-nil, length-drop, length-take, length-take-le, map-append, take-append-drop, take-set, take_all, take_more_set}
use Rattle.std.proofs.Math.Seq.{take-add}
use Rattle.std.proofs.lemmas.List.Elements.{filter_more}
use Rattle.std.proofs.lemmas.List.Sums.{sum_by-append}
use Rattle.std.proofs.lemmas.Slice.Zip.{length-zip, get_or-zip}
use mir.Val.{bool_byte}
use Rattle.scan_kernels.specs.Packed.{number_set, packed}
use Rattle.scan_kernels.proofs.PackedLists.{length-packed, packed-append}

-- what the first i pairs of a flag and an item keep
abbrev pub kept_before : {X : Type 0} → List Bool → List X → ℕ → List X
kept_before flags xs i = map (λ p. p.1) (filter (λ p. p.0) (take i (zip flags xs)))

module _ {X : Type 0} (flags : List Bool) (xs : List X) where
  chosen : (b : Bool) (x : X) → map (λ (p : Bool × X). p.1) (cond b ((b, x) ∷ []) []) ≡ cond b (x ∷ []) []
  chosen true x = refl
  chosen false x = refl

  kept_more : (i : ℕ) (x : X) → i < length flags → length flags ≡ length xs → x ≡ get_or xs i x → kept_before flags xs (i + 1) ≡ kept_before flags xs i ++ cond (get_or flags i false) (x ∷ []) []
  kept_more i x lt same is =
      let long = length-zip flags xs in
      let pairs = zip flags xs in
      let front = filter (λ p. p.0) (take i pairs) in
      let pair : get_or pairs i (false, x) ≡ (get_or flags i false, x) = get_or-zip flags xs i (false, x) lt (omega arith) ∙ ap (λ (y : X). (get_or flags i false, y)) (sym is) in
      ap (map (λ p. p.1)) (filter_more (λ p. p.0) pairs i (false, x) (omega arith))
      ∙ map-append (λ p. p.1) front (cond (get_or pairs i (false, x)).0 (get_or pairs i (false, x) ∷ []) [])
      ∙ ap (λ p. map (λ p. p.1) front ++ map (λ p. p.1) (cond p.0 (p ∷ []) [])) pair
      ∙ ap (λ l. map (λ p. p.1) front ++ l) (chosen (get_or flags i false) x)

-- a flag as a number
pub flag_number : (b : Bool) → (bool_byte b ≡ cond b 1 0) × (cond b 1 0 ≤ 1)
flag_number true = (refl, omega arith)
flag_number false = (refl, omega arith)

-- an item that is written behind those that are kept stays where its flag is set
stays : {X : Type 0} (b : Bool) (many : ℕ) (buffer : List X) (x : X) → many < length buffer → take (many + cond b 1 0) (set buffer many x) ≡ take many buffer ++ cond b (x ∷ []) []
stays true many buffer x lt = take_more_set buffer many x lt
stays false many buffer x lt = ap (λ k. take k (set buffer many x)) (add-zero many) ∙ take-set buffer many x ∙ sym (append-nil (take many buffer))

module _ {X : Type 0} (flags : List Bool) (xs : List X) where
  pub compressed_more : (i many next : ℕ) (buffer : List X) (x : X) → i < length flags → length flags ≡ length xs → x ≡ get_or xs i x → many < length buffer → take many buffer ≡ kept_before flags xs i → next ≡ many + cond (get_or flags i false) 1 0 → take next (set buffer many x) ≡ kept_before flags xs (i + 1)
  compressed_more i many next buffer x lt same is room so_far more =
      let flag = get_or flags i false in
      ap (λ k. take k (set buffer many x)) more ∙ stays flag many buffer x room ∙ ap (λ l. l ++ cond flag (x ∷ []) []) so_far ∙ sym (kept_more flags xs i x lt same is)

  pub packed_all : (i : ℕ) → length flags ≤ i → kept_before flags xs i ≡ packed flags xs
  packed_all i past = let long = length-zip flags xs in ap (λ l. map (λ p. p.1) (filter (λ p. p.0) l)) (take_all i (zip flags xs) (omega arith))

-- one more block of flags and items
module _ {X : Type 0} (flags : List Bool) (xs : List X) (at end : ℕ) where
  pub block_more : (made : List X) → length flags ≡ length xs → at ≤ end → end ≤ length xs → made ≡ packed (take at flags) (take at xs) → made ++ packed (take (end - at) (drop at flags)) (take (end - at) (drop at xs)) ≡ packed (take end flags) (take end xs)
  block_more made same later within so_far =
      let whole : end ≡ at + (end - at) = omega arith in
      let front = length-take-le at flags (omega arith) in
      let also = length-take-le at xs (omega arith) in
      ap (λ l. l ++ packed (take (end - at) (drop at flags)) (take (end - at) (drop at xs))) so_far
      ∙ sym (packed-append (take at flags) (take (end - at) (drop at flags)) (take at xs) (take (end - at) (drop at xs)) (omega arith))
      ∙ ap (λ fs. packed fs (take at xs ++ take (end - at) (drop at xs))) (sym (take-add at (end - at) flags))
      ∙ ap (packed (take (at + (end - at)) flags)) (sym (take-add at (end - at) xs))
      ∙ ap (λ k. packed (take k flags) (take k xs)) (sym whole)

  -- as many more flags are set as the block keeps items, and no more than there are
  pub number_set_more : length flags ≡ length xs → at ≤ end → number_set (take end flags) ≡ number_set (take at flags) + length (packed (take (end - at) (drop at flags)) (take (end - at) (drop at xs)))
  number_set_more same later =
      let block = take (end - at) (drop at flags) in
      let whole : end ≡ at + (end - at) = omega arith in
      let long : length block ≡ length (take (end - at) (drop at xs)) = omega (arith, length-take (end - at) (drop at flags), length-drop at flags, length-take (end - at) (drop at xs), length-drop at xs) in
      let kept = length-packed block (take (end - at) (drop at xs)) long in
      ap (λ k. number_set (take k flags)) whole
      ∙ ap number_set (take-add at (end - at) flags)
      ∙ sum_by-append (λ b. cond b 1 0) (take at flags) block
      ∙ ap (λ n. number_set (take at flags) + n) (sym kept)

  pub number_set_within : number_set (take end flags) ≤ number_set flags
  number_set_within =
      omega (arith, ap number_set (take-append-drop end flags), sum_by-append (λ b. cond b 1 0) (take end flags) (drop end flags))

  pub packed_taken : length flags ≡ length xs → length xs ≤ at → packed (take at flags) (take at xs) ≡ packed flags xs
  packed_taken same past = ap (λ fs. packed fs (take at xs)) (take_all at flags (omega arith)) ∙ ap (packed flags) (take_all at xs past)

-- The first line feed of a text: `no-feed` where a search finds none, and `cut_range` where it finds one in a range of a block.
use Rattle.std.proofs.Common.{◌≡◌, ℕ, zero, suc, ◌+◌, ◌<◌, ◌≤◌, Bool, true, false, eqb, List, [], ◌∷◌, ◌++◌, length, take, drop, get_or, refl, sym, ap, ◌∙◌, subst, arith, ◌-◌, take-append-drop}
use Rattle.std.proofs.lemmas.Bool.{eqb-true}
use Rattle.std.specs.List.{slice_range}
use Rattle.std.proofs.lemmas.List.{take_all, length-take, drop-take, drop-drop}
use Rattle.std.proofs.Math.Numerals.{add-one}
use Rattle.std.proofs.Math.Seq.{drop-cons}
use Rattle.memchr.specs.Find.{Nowhere, Passes, is_byte}
use Rattle.script_lines.specs.Scripts.{IsOneLine}

one-more : (b : ℕ) (bs : List ℕ) → (eqb b 10 ≡ true → ⊥) → IsOneLine bs → IsOneLine (b ∷ bs)
one-more b bs not_feed rest = by (eqb b 10) refl
  where
    by : (t : Bool) → eqb b 10 ≡ t → IsOneLine (b ∷ bs)
    by true e = absurd (not_feed e)
    by false e = rw (e, rest) refl

none-before : (n : ℕ) (text : List ℕ) → n ≤ length text → ((k : ℕ) → k < n → eqb (get_or text k 0) 10 ≡ true → ⊥) → IsOneLine (take n text)
none-before zero text le none = refl
none-before (suc n) [] le none = absurd (omega arith)
none-before (suc n) (b ∷ bs) le none =
    one-more b (take n bs) (none zero (omega arith)) (none-before n bs (omega arith) (λ k lt. none (suc k) (omega arith)))

module _ (text : List ℕ) where
  pub no-feed : Nowhere (Passes (is_byte 10) text) 0 (length text) → IsOneLine text
  no-feed none =
      let whole = none-before (length text) text (omega arith) (λ k lt. none k (omega arith) lt) in
      let all : take (length text) text ≡ text = take_all (length text) text (omega arith) in
      subst (λ (t : List ℕ). IsOneLine t) all whole

  module _ (end : ℕ) (within : end < length text) where
    no-feed-before : Nowhere (Passes (is_byte 10) text) 0 end → IsOneLine (take end text)
    no-feed-before none = none-before end text (omega arith) (λ k lt. none k (omega arith) lt)

    cut-at : Passes (is_byte 10) text end → text ≡ take end text ++ 10 ∷ drop (end + 1) text
    cut-at at =
        let feed : get_or text end 0 ≡ 10 = eqb-true _ _ at in
        let behind : drop end text ≡ 10 ∷ drop (suc end) text = drop-cons text end 0 within ∙ ap (λ (b : ℕ). b ∷ drop (suc end) text) feed in
        rw add-one (sym (take-append-drop end text) ∙ ap (λ (t : List ℕ). take end text ++ t) behind)

take-within : (n m : ℕ) (l : List ℕ) → n ≤ m → take n (take m l) ≡ take n l
take-within zero m l le = refl
take-within (suc n) zero l le = absurd (omega arith)
take-within (suc n) (suc m) [] le = refl
take-within (suc n) (suc m) (b ∷ bs) le = ap (λ (t : List ℕ). b ∷ t) (take-within n m bs (omega arith))

-- the line and the rest behind it, in a range of a block
module _ (xs : List ℕ) (a b n : ℕ) (order : a ≤ b) (within : b ≤ length xs) (lt : n < length (slice_range xs a b)) where
  room : n < b - a
  room = omega (arith, length-take (b - a) (drop a xs))

  line-range : take n (slice_range xs a b) ≡ slice_range xs a (a + n)
  line-range =
      let short : n ≤ b - a = omega (arith, room) in
      let size : n ≡ (a + n) - a = omega arith in
      take-within n (b - a) (drop a xs) short ∙ ap (λ (k : ℕ). take k (drop a xs)) size

  rest-range : drop (n + 1) (slice_range xs a b) ≡ slice_range xs (a + n + 1) b
  rest-range =
      let m = b - (a + n + 1) in
      let size : b - a ≡ (n + 1) + m = omega (arith, room) in
      let at : a + (n + 1) ≡ a + n + 1 = omega arith in
      ap (λ (k : ℕ). drop (n + 1) (take k (drop a xs))) size ∙ drop-take (n + 1) m (drop a xs) ∙ ap (take m) (drop-drop (n + 1) a xs) ∙ ap (λ (k : ℕ). take m (drop k xs)) at

  pub cut_range : Nowhere (Passes (is_byte 10) (slice_range xs a b)) 0 n → Passes (is_byte 10) (slice_range xs a b) n
      → (slice_range xs a b ≡ slice_range xs a (a + n) ++ 10 ∷ slice_range xs (a + n + 1) b) × IsOneLine (slice_range xs a (a + n))
  cut_range before at =
      let text = slice_range xs a b in (
        cut-at text n lt at ∙ ap (λ (t : List ℕ). t ++ 10 ∷ drop (n + 1) text) line-range ∙ ap (λ (t : List ℕ). slice_range xs a (a + n) ++ 10 ∷ t) rest-range,
        subst (λ (t : List ℕ). IsOneLine t) line-range (no-feed-before text n lt before),
      )

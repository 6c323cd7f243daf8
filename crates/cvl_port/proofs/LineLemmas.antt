-- The lines of a text, one after another, and the calls that they ask for.
use Rattle.std.proofs.Common.{◌≡◌, ℕ, suc, ◌+◌, ◌<◌, ◌≤◌, Bool, true, false, cond, eqb, ltb, not, List, [], ◌∷◌, ◌++◌, length, take, drop, refl, ap, ◌∙◌, position, Option, Some, None, arith}
use Rattle.std.specs.Prelude.{unwrap_or}
use Rattle.std.specs.List.{position_or_len}
use Rattle.cvl_port.specs.Lines.{is_feed, line_len, onto_first, lines_of}

len-position : (text : List ℕ) → position_or_len is_feed text ≡ line_len text
len-position [] = refl
len-position (b ∷ bs) =
    elim (eqb b 10) as (λ t. cond (not t) (1 + position_or_len is_feed bs) 0 ≡ cond t 0 (suc (line_len bs))) [
      | true ↦ refl
      | false ↦ let rest = len-position bs in omega arith
    ]

len-within : (text : List ℕ) → line_len text < suc (length text)
len-within [] = omega arith
len-within (b ∷ bs) =
    elim (eqb b 10) as (λ t. cond t 0 (suc (line_len bs)) < suc (suc (length bs))) [
      | true ↦ omega arith
      | false ↦ let rest = len-within bs in omega arith
    ]

pub line_len-le : (text : List ℕ) → line_len text ≤ length text
line_len-le text = let within = len-within text in omega arith

end_by : (end len : ℕ) (t : Bool) → ltb end len ≡ t → end < suc len → unwrap_or (cond t (Some end) None) len ≡ end
end_by end len true e lt = refl
end_by end len false e lt = grind arith

pub len_from_position : (text : List ℕ) → unwrap_or (position is_feed text) (length text) ≡ line_len text
len_from_position text =
    let same = len-position text in
    let lt = len-within text in
    end_by (position_or_len is_feed text) (length text) (ltb (position_or_len is_feed text) (length text)) refl (omega arith) ∙ same

-- the first line, and those behind it
pub lines_of-first : (b : ℕ) (bs : List ℕ) → lines_of (b ∷ bs) ≡ take (line_len (b ∷ bs)) (b ∷ bs) ∷ lines_of (drop 1 (drop (line_len (b ∷ bs)) (b ∷ bs)))
lines_of-first b [] =
    elim (eqb b 10) as (λ t. cond t ([] ∷ []) ((b ∷ []) ∷ []) ≡ take (cond t 0 1) (b ∷ []) ∷ lines_of (drop 1 (drop (cond t 0 1) (b ∷ [])))) [ true ↦ refl | false ↦ refl ]
lines_of-first b (c ∷ cs) =
    let bs = c ∷ cs in
    let behind = lines_of-first c cs in
    elim (eqb b 10) as (λ t. cond t ([] ∷ lines_of bs) (onto_first b (lines_of bs)) ≡ take (cond t 0 (suc (line_len bs))) (b ∷ bs) ∷ lines_of (drop 1 (drop (cond t 0 (suc (line_len bs))) (b ∷ bs)))) [
      | true ↦ refl
      | false ↦ ap (onto_first b) behind
    ]

-- what was read before, and what is still read
abbrev pub onto : {Y : Type 0} → List Y → Option (List Y) → Option (List Y)
onto front None = None
onto front (Some ys) = Some (front ++ ys)

pub lines_of-filled : (text : List ℕ) → 0 < length text → lines_of text ≡ take (line_len text) text ∷ lines_of (drop 1 (drop (line_len text) text))
lines_of-filled [] filled = absurd (omega arith)
lines_of-filled (b ∷ bs) filled = lines_of-first b bs

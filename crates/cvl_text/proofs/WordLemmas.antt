-- The words of a line, one after another.
use Rattle.std.proofs.Common.{◌≡◌, ℕ, suc, ◌+◌, ◌<◌, ◌≤◌, Bool, true, false, cond, eqb, ltb, not, List, [], ◌∷◌, length, take, drop, filter, refl, sym, ap, ◌∙◌, subst, position, Some, None, arith}
use Rattle.std.specs.Prelude.{unwrap_or}
use Rattle.std.specs.List.{position_or_len}
use Rattle.std.proofs.lemmas.List.{nil_from_length}
use Rattle.cvl_text.specs.Words.{onto_first, pieces, is_filled, words_of, is_space, skip_spaces, word_len}

word_len-position : (text : List ℕ) → position_or_len is_space text ≡ word_len text
word_len-position [] = refl
word_len-position (b ∷ bs) =
    elim (eqb b 32) as (λ t. cond (not t) (1 + position_or_len is_space bs) 0 ≡ cond t 0 (suc (word_len bs))) [
      | true ↦ refl
      | false ↦ let rest = word_len-position bs in omega arith
    ]

word_len-le-length : (text : List ℕ) → word_len text < suc (length text)
word_len-le-length [] = omega arith
word_len-le-length (b ∷ bs) =
    elim (eqb b 32) as (λ t. cond t 0 (suc (word_len bs)) < suc (suc (length bs))) [
      | true ↦ omega arith
      | false ↦ let rest = word_len-le-length bs in omega arith
    ]

end_by : (end len : ℕ) (t : Bool) → ltb end len ≡ t → end < suc len → unwrap_or (cond t (Some end) None) len ≡ end
end_by end len true e lt = refl
end_by end len false e lt = grind arith

pub end_from_position : (text : List ℕ) → unwrap_or (position is_space text) (length text) ≡ word_len text
end_from_position text =
    let same = word_len-position text in
    let lt = word_len-le-length text in
    end_by (position_or_len is_space text) (length text) (ltb (position_or_len is_space text) (length text)) refl (omega arith) ∙ same

skip_by : (b : ℕ) (bs : List ℕ) (t : Bool) → eqb b 32 ≡ t → words_of (skip_spaces bs) ≡ words_of bs → words_of (skip_spaces (b ∷ bs)) ≡ words_of (b ∷ bs)
skip_by b bs true e rest = rw e rest
skip_by b bs false e rest = rw e (rw e refl)

-- spaces in front change nothing
pub words_of-skip_spaces : (text : List ℕ) → words_of (skip_spaces text) ≡ words_of text
words_of-skip_spaces [] = refl
words_of-skip_spaces (b ∷ bs) = skip_by b bs (eqb b 32) refl (words_of-skip_spaces bs)

-- the pieces after the first
abbrev later_pieces : List ℕ → List (List ℕ)
later_pieces [] = []
later_pieces (b ∷ bs) = pieces bs

pieces-first : (text : List ℕ) → pieces text ≡ take (word_len text) text ∷ later_pieces (drop (word_len text) text)
pieces-first [] = refl
pieces-first (b ∷ bs) =
    elim (eqb b 32) as (λ t. cond t ([] ∷ pieces bs) (onto_first b (pieces bs)) ≡ take (cond t 0 (suc (word_len bs))) (b ∷ bs) ∷ later_pieces (drop (cond t 0 (suc (word_len bs))) (b ∷ bs))) [
      | true ↦ refl
      | false ↦ ap (onto_first b) (pieces-first bs)
    ]

later_by : (b : ℕ) (bs : List ℕ) (t : Bool) → eqb b 32 ≡ t → words_of (drop (word_len bs) bs) ≡ filter is_filled (later_pieces (drop (word_len bs) bs)) → words_of (drop (word_len (b ∷ bs)) (b ∷ bs)) ≡ filter is_filled (later_pieces (drop (word_len (b ∷ bs)) (b ∷ bs)))
later_by b bs true e rest = rw e (rw e refl)
later_by b bs false e rest = rw e rest

words_of-later : (text : List ℕ) → words_of (drop (word_len text) text) ≡ filter is_filled (later_pieces (drop (word_len text) text))
words_of-later [] = refl
words_of-later (b ∷ bs) = later_by b bs (eqb b 32) refl (words_of-later bs)

-- the first word, and those after it
words_of-first : (b : ℕ) (bs : List ℕ) → eqb b 32 ≡ false → words_of (b ∷ bs) ≡ take (word_len (b ∷ bs)) (b ∷ bs) ∷ words_of (drop (word_len (b ∷ bs)) (b ∷ bs))
words_of-first b bs e =
    let first = ap (λ (ps : List (List ℕ)). filter is_filled ps) (pieces-first (b ∷ bs)) in
    let later = words_of-later (b ∷ bs) in
    let filled : filter is_filled (take (word_len (b ∷ bs)) (b ∷ bs) ∷ later_pieces (drop (word_len (b ∷ bs)) (b ∷ bs))) ≡ take (word_len (b ∷ bs)) (b ∷ bs) ∷ filter is_filled (later_pieces (drop (word_len (b ∷ bs)) (b ∷ bs))) = rw e refl in
    first ∙ filled ∙ ap (λ (ws : List (List ℕ)). take (word_len (b ∷ bs)) (b ∷ bs) ∷ ws) (sym later)

no_space_first : (text : List ℕ) (b : ℕ) (bs : List ℕ) → skip_spaces text ≡ b ∷ bs → eqb b 32 ≡ false
no_space_first [] b bs e = absurd cc
no_space_first (c ∷ cs) b bs e = by (eqb c 32) refl (λ rest. no_space_first cs b bs rest)
  where
    by : (t : Bool) → eqb c 32 ≡ t → (skip_spaces cs ≡ b ∷ bs → eqb b 32 ≡ false) → eqb b 32 ≡ false
    by true was next = next (rw was at e)
    by false was next = let same : c ∷ cs ≡ b ∷ bs = rw was at e in let head : c ≡ b = cc in subst (λ (x : ℕ). eqb x 32 ≡ false) head was

pub words_of-nothing : (text : List ℕ) → length (skip_spaces text) ≡ 0 → words_of text ≡ []
words_of-nothing text e = sym (words_of-skip_spaces text) ∙ ap words_of (nil_from_length (skip_spaces text) e)

pub words_of-next : (text rest : List ℕ) → skip_spaces text ≡ rest → 0 < length rest → words_of text ≡ take (word_len rest) rest ∷ words_of (drop (word_len rest) rest)
words_of-next text [] e lt = absurd (omega arith)
words_of-next text (b ∷ bs) e lt = sym (words_of-skip_spaces text) ∙ ap words_of e ∙ words_of-first b bs (no_space_first text b bs e)

pub word_len-le : (text : List ℕ) → word_len text ≤ length text
word_len-le text = let lt = word_len-le-length text in omega arith

-- the words that begin in a text, in a word or not
abbrev pub begun : Bool → List ℕ → ℕ
begun in_word [] = 0
begun in_word (b ∷ bs) = cond (eqb b 32) (begun false bs) (cond in_word (begun true bs) (suc (begun true bs)))

-- all pieces but the first
abbrev but_first : List (List ℕ) → List (List ℕ)
but_first [] = []
but_first (p ∷ ps) = ps

but_first-onto_first : (b : ℕ) (ps : List (List ℕ)) → but_first (onto_first b ps) ≡ but_first ps
but_first-onto_first b [] = refl
but_first-onto_first b (p ∷ ps) = refl

filter-onto_first : (b : ℕ) (ps : List (List ℕ)) → length (filter is_filled (onto_first b ps)) ≡ suc (length (filter is_filled (but_first ps)))
filter-onto_first b [] = refl
filter-onto_first b (p ∷ ps) = refl

begun_by : (b : ℕ) (bs : List ℕ) (t : Bool) → eqb b 32 ≡ t → begun false bs ≡ length (words_of bs) → begun true bs ≡ length (filter is_filled (but_first (pieces bs)))
    → (begun false (b ∷ bs) ≡ length (words_of (b ∷ bs))) × (begun true (b ∷ bs) ≡ length (filter is_filled (but_first (pieces (b ∷ bs)))))
begun_by b bs true e out inside = (rw e out, rw e out)
begun_by b bs false e out inside = (
  rw e (ap suc inside ∙ sym (filter-onto_first b (pieces bs))),
  rw e (inside ∙ sym (ap (λ (ps : List (List ℕ)). length (filter is_filled ps)) (but_first-onto_first b (pieces bs)))),
)

begun-both : (text : List ℕ) → (begun false text ≡ length (words_of text)) × (begun true text ≡ length (filter is_filled (but_first (pieces text))))
begun-both [] = (refl, refl)
begun-both (b ∷ bs) = let rest = begun-both bs in begun_by b bs (eqb b 32) refl rest.0 rest.1

-- outside a word, the words that begin are all words
pub begun-words : (text : List ℕ) → begun false text ≡ length (words_of text)
begun-words text = (begun-both text).0

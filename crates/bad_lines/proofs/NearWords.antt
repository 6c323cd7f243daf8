-- The nearest of the words of the table is a call word, and none is nearer.
use Rattle.std.proofs.Common.{◌≡◌, ℕ, ◌<◌, ◌≤◌, Bool, true, false, cond, ltb, ltb-true, ltb-false, ◌||◌, List, [], ◌∷◌, map, Option, Some, None, refl, sym, ap, subst, arith, rules}
use Rattle.std.specs.Prelude.{IsSome, is_some}
use Rattle.std.specs.Cmp.Lexicographic as texts
use Rattle.cvl_text.specs.declared.word.Word.{Word}
use Rattle.cvl_text.specs.Words.{same_text, all_words, word_of, word_text, words_of}
use Rattle.cvl_text.proofs.WordTexts.{each_word}
use Rattle.bad_lines.specs.declared.table.TheConstants.{ROWS}
use Rattle.bad_lines.specs.Agreement.{IsFar, IsNearest, agreeing, agreement, nearer, nearest_of, nearest_in}
use Rattle.bad_lines.specs.Forms.{is_among}

-- the words of each row
unfoldable pub table_words : List (List (List ℕ))
table_words = map (λ row. words_of row.0.now) ROWS

is_in : List ℕ → List (List (List ℕ)) → Bool
is_in v [] = false
is_in v (row ∷ rows) = is_among v row || is_in v rows

nearer-most : (text w o : List ℕ) (t : Bool) → ltb (agreement w text) (agreement o text) ≡ t
    → (agreement w text ≤ agreement (cond t o w) text) × (agreement o text ≤ agreement (cond t o w) text)
nearer-most text w o true e = let less = ltb-true _ _ e in (omega arith, omega arith)
nearer-most text w o false e = let least = ltb-false _ _ e in (omega arith, omega arith)

-- the word that a search begins with
of-first : (text word : List ℕ) (ws : List (List ℕ)) → agreement word text ≤ agreement (nearest_of text word ws) text
of-first text word [] = omega arith
of-first text word (w ∷ ws) =
    let here = (nearer-most text word w (ltb (agreement word text) (agreement w text)) refl).0 in
    let later = of-first text (nearer text word w) ws in
    omega arith

of-each : (text word : List ℕ) (ws : List (List ℕ)) (v : List ℕ) → is_among v ws ≡ true → agreement v text ≤ agreement (nearest_of text word ws) text
of-each text word [] v e = absurd cc
of-each text word (w ∷ ws) v e = by (same_text w v) refl e (λ found. of-each text (nearer text word w) ws v found)
  where
    by : (t : Bool) → same_text w v ≡ t → (t || is_among v ws) ≡ true → (is_among v ws ≡ true → agreement v text ≤ agreement (nearest_of text (nearer text word w) ws) text)
        → agreement v text ≤ agreement (nearest_of text (nearer text word w) ws) text
    by true was found later =
        let same : agreement w text ≡ agreement v text = ap (λ (t : List ℕ). agreement t text) (texts.same_text w v (sym was)) in
        let here = (nearer-most text word w (ltb (agreement word text) (agreement w text)) refl).1 in
        let rest = of-first text (nearer text word w) ws in
        omega arith
    by false was found later = later found

in-first : (text word : List ℕ) (rows : List (List (List ℕ))) → agreement word text ≤ agreement (nearest_in text word rows) text
in-first text word [] = omega arith
in-first text word (row ∷ rows) =
    let here = of-first text word row in
    let later = in-first text (nearest_of text word row) rows in
    omega arith

in-each : (text word : List ℕ) (rows : List (List (List ℕ))) (v : List ℕ) → is_in v rows ≡ true → agreement v text ≤ agreement (nearest_in text word rows) text
unfolding is_in
in-each text word [] v e = absurd cc
in-each text word (row ∷ rows) v e = by (is_among v row) refl e (λ found. in-each text (nearest_of text word row) rows v found)
  where
    by : (t : Bool) → is_among v row ≡ t → (t || is_in v rows) ≡ true → (is_in v rows ≡ true → agreement v text ≤ agreement (nearest_in text (nearest_of text word row) rows) text)
        → agreement v text ≤ agreement (nearest_in text (nearest_of text word row) rows) text
    by true was found later =
        let here = of-each text word row v was in
        let rest = in-first text (nearest_of text word row) rows in
        omega arith
    by false was found later = later found

-- a property that the first word and all others have, the nearest has
nearer-has : (has : List ℕ → Bool) (text w o : List ℕ) → has w ≡ true → has o ≡ true → has (nearer text w o) ≡ true
nearer-has has text w o first second = by (ltb (agreement w text) (agreement o text))
  where
    by : (t : Bool) → has (cond t o w) ≡ true
    by true = second
    by false = first

of-has : (has : List ℕ → Bool) (text word : List ℕ) (ws : List (List ℕ)) → has word ≡ true → map has ws ≡ map (λ (w : List ℕ). true) ws → has (nearest_of text word ws) ≡ true
of-has has text word [] first all = first
of-has has text word (w ∷ ws) first all = of-has has text (nearer text word w) ws (nearer-has has text word w first cc) cc

in-has : (has : List ℕ → Bool) (text word : List ℕ) (rows : List (List (List ℕ))) → has word ≡ true
    → map {B = List Bool} (λ row. map has row) rows ≡ map {B = List Bool} (λ row. map (λ (w : List ℕ). true) row) rows → has (nearest_in text word rows) ≡ true
in-has has text word [] first all = first
in-has has text word (row ∷ rows) first all = in-has has text (nearest_of text word row) rows (of-has has text word row first cc) cc

-- a call word, or no text at all
is_word_or_none : List ℕ → Bool
is_word_or_none [] = true
is_word_or_none (b ∷ bs) = is_some (word_of (b ∷ bs))

all_are_words : map {B = List Bool} (λ row. map is_word_or_none row) table_words ≡ map {B = List Bool} (λ row. map (λ (w : List ℕ). true) row) table_words
unfolding table_words is_word_or_none word_of
all_are_words = refl

all_are_there : map (λ w. is_in (word_text w) table_words) all_words ≡ map (λ (w : Word). true) all_words
unfolding table_words is_in
all_are_there = refl

most : (text : List ℕ) (w : Word) → agreement (word_text w) text ≤ agreement (nearest_in text [] table_words) text
most text w = in-each text [] table_words (word_text w) (each_word (λ v. is_in (word_text v) table_words) (λ v. true) all_are_there w)

agreement-none : (text : List ℕ) → agreement [] text ≡ 0
unfolding agreement agreeing
agreement-none text = refl

pub far : (text word : List ℕ) → word ≡ nearest_in text [] table_words → agreement word text < 3 → IsFar text
far text word is less = λ w. let least = most text w in let same = ap (λ (t : List ℕ). agreement t text) is in omega arith

some_by : (o : Option Word) → is_some o ≡ true → IsSome o
some_by (Some word) e = search rules
some_by None e = absurd cc

word_by : (text word : List ℕ) → is_word_or_none word ≡ true → 3 ≤ agreement word text → IsSome (word_of word)
unfolding is_word_or_none
word_by text [] e some = let none = agreement-none text in absurd (omega arith)
word_by text (b ∷ bs) e some = some_by (word_of (b ∷ bs)) e

pub near : (text word : List ℕ) → word ≡ nearest_in text [] table_words → 3 ≤ agreement word text → IsNearest text word
unfolding is_word_or_none
near text word is some = record {
  is_word = word_by text word (subst (λ (t : List ℕ). is_word_or_none t ≡ true) (sym is) (in-has is_word_or_none text [] table_words refl all_are_words)) some;
  near = some;
  most = λ w. let least = most text w in let same = ap (λ (t : List ℕ). agreement t text) is in omega arith;
}

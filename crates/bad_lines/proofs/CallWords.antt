-- The table of call words says what the grammar says: of each word that it has, and of no other.
use Rattle.std.proofs.Common.{◌≡◌, ℕ, Bool, true, false, cond, ◌||◌, List, [], ◌∷◌, map, Option, Some, None, refl, sym, ap, ◌∙◌, subst}
use Rattle.std.specs.Option.{option_map}
use Rattle.std.specs.Cmp.Lexicographic as texts
use Rattle.bad_lines.specs.declared.table.TheConstants.{ROWS}
use Rattle.cvl_text.specs.declared.word.Word.{Word}
use Rattle.cvl_text.specs.Words.{same_text, word_text, all_words, word_of, words_of}
use Rattle.cvl_text.proofs.WordTexts.{word_text-read, each_word}
use Rattle.bad_lines.specs.Forms.{Form, Row, argument_kinds, form_among, form_of_row, form_of_word, is_among}

-- words and their form
abbrev pub Plain : Type 0
Plain = List (List ℕ) × Form

form_in : List Plain → List ℕ → Option Form
form_in [] text = None
form_in (row ∷ rows) text = cond (is_among text row.0) (Some row.1) (form_in rows text)

-- what the grammar says of a text
form_of_text : List ℕ → Option Form
form_of_text text = option_map form_of_word (word_of text)

-- rows whose words are used as the rows say, and that have all words
record IsTable (rows : List Plain) : Type 0 where
  right : map {B = List (Option Form)} (λ row. map form_of_text row.0) rows ≡ map {B = List (Option Form)} (λ row. map (λ w. Some row.1) row.0) rows
  whole : map (λ word. form_in rows (word_text word)) all_words ≡ map (λ word. Some (form_of_word word)) all_words

among-same : (ws : List (List ℕ)) (text : List ℕ) (said : Option Form) → is_among text ws ≡ true → map form_of_text ws ≡ map (λ (w : List ℕ). said) ws → form_of_text text ≡ said
among-same [] text said e all = absurd cc
among-same (w ∷ ws) text said e all = by (same_text w text) refl e (λ found. among-same ws text said found cc)
  where
    by : (t : Bool) → same_text w text ≡ t → (t || is_among text ws) ≡ true → (is_among text ws ≡ true → form_of_text text ≡ said) → form_of_text text ≡ said
    by true was found later = let same : w ≡ text = texts.same_text w text (sym was) in let here : form_of_text w ≡ said = cc in subst (λ (t : List ℕ). form_of_text t ≡ said) same here
    by false was found later = later found

form-right : (rows : List Plain) (text : List ℕ) (form : Form) → map {B = List (Option Form)} (λ row. map form_of_text row.0) rows ≡ map {B = List (Option Form)} (λ row. map (λ w. Some row.1) row.0) rows
    → form_in rows text ≡ Some form → form_of_text text ≡ Some form
unfolding form_in
form-right [] text form all e = absurd cc
form-right (row ∷ rows) text form all e = by (is_among text row.0) refl e (λ found. form-right rows text form (cc) found)
  where
    by : (t : Bool) → is_among text row.0 ≡ t → cond t (Some row.1) (form_in rows text) ≡ Some form → (form_in rows text ≡ Some form → form_of_text text ≡ Some form) → form_of_text text ≡ Some form
    by true was found later =
        let here : map form_of_text row.0 ≡ map (λ (w : List ℕ). Some row.1) row.0 = cc in
        among-same row.0 text (Some row.1) was here ∙ found
    by false was found later = later found

none_by : (o : Option Word) → ((word : Word) → o ≡ Some word → ⊥) → None ≡ option_map form_of_word o
none_by None never = refl
none_by (Some word) never = absurd (never word refl)

form_in-word_of : (rows : List Plain) → IsTable rows → (text : List ℕ) → form_in rows text ≡ option_map form_of_word (word_of text)
unfolding form_of_text
form_in-word_of rows table text = by (form_in rows text) refl
  where
    by : (o : Option Form) → form_in rows text ≡ o → o ≡ option_map form_of_word (word_of text)
    by (Some form) was = sym (form-right rows text form table.right was)
    by None was = none_by (word_of text) (λ word e.
        let here : form_in rows (word_text word) ≡ Some (form_of_word word) = each_word (λ w. form_in rows (word_text w)) (λ w. Some (form_of_word w)) table.whole word in
        let there : form_in rows text ≡ Some (form_of_word word) = subst (λ (t : List ℕ). form_in rows t ≡ Some (form_of_word word)) (word_text-read text word e) here in cc)

unfoldable pub the_table : List Plain
the_table = map {B = Plain} (λ row. (words_of row.0.now, record { is_targeted = row.1; arguments = argument_kinds row.2.now row.3 })) ROWS

the_table_is_table : IsTable the_table
unfolding the_table form_in form_of_text word_of
the_table_is_table = record { right = refl; whole = refl }

-- rows, apart from where their texts lie
abbrev pub plain_rows : List Row → List Plain
plain_rows rows = map {B = Plain} (λ row. (words_of row.0.now, form_of_row row)) rows

form_among-plain : (rows : List Row) (text : List ℕ) → form_among rows text ≡ form_in (plain_rows rows) text
unfolding form_in form_among
form_among-plain [] text = refl
form_among-plain (row ∷ rows) text = ap (cond (is_among text (words_of row.0.now)) (Some (form_of_row row))) (form_among-plain rows text)

-- what the table says of a text, wherever its parts lie, is what the grammar says
pub form_among-word_of : (rows : List Row) (text : List ℕ) → plain_rows rows ≡ the_table → form_among rows text ≡ option_map form_of_word (word_of text)
form_among-word_of rows text same =
    form_among-plain rows text ∙ ap (λ (ps : List Plain). form_in ps text) same ∙ form_in-word_of the_table the_table_is_table text

-- The table of call words: what is found there by shape and operation is what `word_of` finds.
use Rattle.std.proofs.Common.{◌≡◌, ℕ, Bool, true, false, cond, eqb, ◌||◌, List, [], ◌∷◌, ◌++◌, length, take, drop, map, Option, Some, None, Bor, refl, sym, ap, ◌∙◌, subst}
use Rattle.std.specs.Prelude.{codes, option_and_then}
use Rattle.std.specs.Option.{option_map}
use Rattle.std.specs.Cmp.Lexicographic as texts
use Rattle.std.proofs.lemmas.List.{take_at, drop_at}
use Rattle.cvl_text.specs.declared.words.TheConstants.{SHAPES}
use Rattle.cvl_text.specs.declared.word.Word.{Word}
use Rattle.cvl_text.specs.Words.{same_text, word_text, all_words, word_of, beside}
use Rattle.cvl_text.proofs.Truths.{bind_some, same_options}
use Rattle.cvl_text.proofs.WordTexts.{word_text-read, each_word}

-- operations with their words, and shapes with their operations
abbrev pub Rows : Type 0
Rows = List (List ℕ × Word)

abbrev pub Shapes : Type 0
Shapes = List (List ℕ × Rows)

-- the word that stands in a table by shape and operation
found : Shapes → List ℕ → List ℕ → Option Word
found shapes operation shape = option_and_then (λ rows. beside rows operation) (beside shapes shape)

found_as_written : Shapes → Word → Option Word
found_as_written shapes word =
    cond (eqb (length (word_text word)) 7) (found shapes (take 3 (word_text word)) (drop 3 (word_text word))) (Some word)

-- a table of rows that are right, with a row for each word of seven bytes
record IsTable (shapes : Shapes) : Type 0 where
  right : map (λ row. map (λ r. word_of (r.0 ++ row.0)) row.1) shapes ≡ map (λ row. map (λ r. Some r.1) row.1) shapes
  whole : map (found_as_written shapes) all_words ≡ map (λ word. Some word) all_words

-- what two functions make alike of each row, they make alike of the row that is found
beside-same : {A B : Type 0} (f g : (List ℕ × A) → B) (rows : List (List ℕ × A)) (text : List ℕ) (x : A) → beside rows text ≡ Some x → map f rows ≡ map g rows → f (text, x) ≡ g (text, x)
unfolding beside
beside-same f g [] text x e all = absurd cc
beside-same {A} f g (row ∷ rows) text x e all = by (same_text row.0 text) refl e (λ later. beside-same f g rows text x later cc)
  where
    by : (t : Bool) → same_text row.0 text ≡ t → cond t (Some row.1) (beside rows text) ≡ Some x → (beside rows text ≡ Some x → f (text, x) ≡ g (text, x)) → f (text, x) ≡ g (text, x)
    by true was found later =
        let at_text : row.0 ≡ text = texts.same_text row.0 text (sym was) in
        let at_value : row.1 ≡ x = cc in
        let here : f row ≡ g row = cc in
        subst (λ (t : List ℕ). f (t, x) ≡ g (t, x)) at_text (subst (λ (y : A). f (row.0, y) ≡ g (row.0, y)) at_value here)
    by false was found later = later found

found-word_of : (shapes : Shapes) → IsTable shapes → (operation shape : List ℕ) (word : Word) → found shapes operation shape ≡ Some word → word_of (operation ++ shape) ≡ Some word
unfolding found
found-word_of shapes table operation shape word e =
    let rows = bind_some (beside shapes shape) (λ rows. beside rows operation) word e in
    let right = beside-same (λ row. map (λ r. word_of (r.0 ++ row.0)) row.1) (λ row. map (λ r. Some r.1) row.1) shapes shape rows.0 rows.1 table.right in
    beside-same (λ r. word_of (r.0 ++ shape)) (λ r. Some r.1) rows.0 operation word rows.2 right

word_of-found : (shapes : Shapes) → IsTable shapes → (operation shape : List ℕ) → length operation ≡ 3 → length (operation ++ shape) ≡ 7 → (word : Word) → word_of (operation ++ shape) ≡ Some word → found shapes operation shape ≡ Some word
unfolding found_as_written
word_of-found shapes table operation shape three seven word e =
    let all = each_word (found_as_written shapes) (λ w. Some w) table.whole word in
    let here = subst (λ (t : List ℕ). cond (eqb (length t) 7) (found shapes (take 3 t) (drop 3 t)) (Some word) ≡ Some word) (word_text-read (operation ++ shape) word e) all in
    rw (seven, take_at operation shape 3 three, drop_at operation shape 3 three) at here

-- the rows of a table, apart from where they lie
abbrev pub rows_in : List (List ℕ × Bor Rows) → Shapes
rows_in shapes = map {B = List ℕ × Rows} (λ row. (row.0, row.1.now)) shapes

unfoldable pub the_table : Shapes
the_table = map {B = List ℕ × Rows} (λ row. (row.0, row.1.now)) SHAPES

the_table_is_table : IsTable the_table
unfolding the_table found found_as_written beside word_of
the_table_is_table = record { right = refl; whole = refl }

beside-map : {A B : Type 0} (f : A → B) (rows : List (List ℕ × A)) (text : List ℕ) → beside (map {B = List ℕ × B} (λ row. (row.0, f row.1)) rows) text ≡ option_map f (beside rows text)
unfolding beside
beside-map f [] text = refl
beside-map {A} {B} f (row ∷ rows) text =
    elim (same_text row.0 text) as (λ t. cond t (Some (f row.1)) (beside (map {B = List ℕ × B} (λ row. (row.0, f row.1)) rows) text) ≡ option_map f (cond t (Some row.1) (beside rows text))) [
      | true ↦ refl
      | false ↦ beside-map f rows text
    ]

and_then-option_map : {A B C : Type 0} (f : A → B) (g : B → Option C) (o : Option A) → option_and_then g (option_map f o) ≡ option_and_then (λ x. g (f x)) o
and_then-option_map f g (Some x) = refl
and_then-option_map f g None = refl

-- the look-up in the table, where its rows lie in memory, finds the word that the text of operation and shape writes
pub found_by_shape : (shapes : List (List ℕ × Bor Rows)) (operation shape : List ℕ) → rows_in shapes ≡ the_table → length operation ≡ 3 → length (operation ++ shape) ≡ 7
    → option_and_then (λ rows. beside rows.now operation) (beside shapes shape) ≡ word_of (operation ++ shape)
unfolding found
found_by_shape shapes operation shape same three seven =
    sym (and_then-option_map (λ rows. rows.now) (λ rows. beside rows operation) (beside shapes shape))
    ∙ ap (option_and_then (λ rows. beside rows operation)) (sym (beside-map (λ rows. rows.now) shapes shape))
    ∙ ap (λ (ss : Shapes). found ss operation shape) same
    ∙ same_options (found the_table operation shape) (word_of (operation ++ shape)) (found-word_of the_table the_table_is_table operation shape) (word_of-found the_table the_table_is_table operation shape three seven)

-- how many bytes a call word has, but for three words
abbrev is_shaped : List ℕ → Bool
is_shaped text = eqb (length text) 7 || (same_text text (codes "z") || (same_text text (codes "b") || same_text text (codes "get")))

words_are_shaped : map (λ word. is_shaped (word_text word)) all_words ≡ map (λ word. true) all_words
words_are_shaped = refl

word_of-shaped : (text : List ℕ) (word : Word) → word_of text ≡ Some word → is_shaped text ≡ true
word_of-shaped text word e =
    subst (λ (t : List ℕ). is_shaped t ≡ true) (word_text-read text word e) (each_word (λ w. is_shaped (word_text w)) (λ w. true) words_are_shaped word)

none_by : (o : Option Word) → ((word : Word) → o ≡ Some word → ⊥) → o ≡ None
none_by None never = refl
none_by (Some word) never = absurd (never word refl)

-- a text of another length writes no word
pub word_of-bare : (text : List ℕ) → eqb (length text) 7 ≡ false → same_text text (codes "z") ≡ false → same_text text (codes "b") ≡ false → same_text text (codes "get") ≡ false → word_of text ≡ None
word_of-bare text length_not not_z not_b not_get =
    none_by (word_of text) (λ word e. let shaped = rw (length_not, not_z, not_b, not_get) at (word_of-shaped text word e) in cc)

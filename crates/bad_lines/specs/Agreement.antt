-- How near a text comes to a word.
use Rattle.std.specs.Prelude.{ℕ, ◌+◌, ◌<◌, ◌≤◌, IsSome, nat_lt, List, [], ◌∷◌, drop, reverse, if◌then◌else◌}
use Rattle.std.specs.Char.{eq_ignore_ascii_case}
use Rattle.cvl_text.specs.declared.word.Word.{Word}
use Rattle.cvl_text.specs.Words.{word_of, word_text}

-- how many bytes agree at the front of two texts, but for capitals
unfoldable pub agreeing : List ℕ → List ℕ → ℕ
agreeing [] text = 0
agreeing (a ∷ word) [] = 0
agreeing (a ∷ word) (b ∷ text) = if eq_ignore_ascii_case a b then 1 + agreeing word text else 0

-- how many agree at the front and, of the others, at the end
unfoldable pub agreement : List ℕ → List ℕ → ℕ
agreement word text = agreeing word text + agreeing (reverse (drop (agreeing word text) word)) (reverse (drop (agreeing word text) text))

-- the one of two words that agrees more with a text, the first where both agree alike
abbrev pub nearer : List ℕ → List ℕ → List ℕ → List ℕ
nearer text word other = if nat_lt (agreement word text) (agreement other text) then other else word

-- the nearest of a word and others behind it, the first of those that agree alike
abbrev pub nearest_of : List ℕ → List ℕ → List (List ℕ) → List ℕ
nearest_of text word [] = word
nearest_of text word (w ∷ ws) = nearest_of text (nearer text word w) ws

abbrev pub nearest_in : List ℕ → List ℕ → List (List (List ℕ)) → List ℕ
nearest_in text word [] = word
nearest_in text word (row ∷ rows) = nearest_in text (nearest_of text word row) rows

-- the least agreement of a word that is near
abbrev pub least_agreement : ℕ
least_agreement = 3

-- a call word that is near to a text, and that no other is nearer to
pub record IsNearest (text word : List ℕ) : Type 0 where
  pub is_word : IsSome (word_of word)
  pub near : least_agreement ≤ agreement word text
  pub most : (w : Word) → agreement (word_text w) text ≤ agreement word text

-- no call word is near to a text
abbrev pub IsFar : List ℕ → Type 0
IsFar text = (w : Word) → agreement (word_text w) text < least_agreement

-- Words and where they stand.
use Rattle.std.specs.Prelude.{◌≡◌, ℕ, ◌<◌, ◌≤◌, List, ◌∷◌, length, drop, take}
use Rattle.cvl_text.specs.Words.{words_of}
use Rattle.bad_lines.specs.declared.word.Word.{Word}

-- the word is the first from a place on
pub record IsNextWord (text : List ℕ) (from : ℕ) (word : Word) : Type 0 where
  pub begins : word.at < length text
  pub ends : word.end ≤ length text
  -- it stands where it says
  pub stands : take (length word.bytes.now) (drop word.at text) ≡ word.bytes.now
  -- no word stands before it
  pub first : words_of (drop word.at text) ≡ words_of (drop from text)
  pub rest : words_of (drop from text) ≡ word.bytes.now ∷ words_of (drop word.end text)

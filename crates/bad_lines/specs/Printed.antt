-- What is printed of a reason.
use Rattle.std.specs.Prelude.{◌≡◌, ℕ, Bool, nat_le, ◌&&◌, List, [], ◌∷◌, ◌++◌, codes, length, map, take, if◌then◌else◌}

-- a byte as it is shown: `?` where it is not printable
abbrev pub is_printable : ℕ → Bool
is_printable b = nat_le 32 b && nat_le b 126

abbrev pub shown : ℕ → ℕ
shown b = if is_printable b then b else 63

-- new is old, with printable bytes behind it
pub record IsPrintedOn (old new : List ℕ) : Type 0 where
  pub more : List ℕ
  pub behind : new ≡ old ++ map shown more

-- the greatest number of bytes of a word that are shown
abbrev pub shown_limit : ℕ
shown_limit = 40

-- a word as it is shown: of a long one the beginning
abbrev pub shown_word : List ℕ → List ℕ
shown_word word = if nat_le (length word) shown_limit then map shown word else map shown (take shown_limit word) ++ codes ".."

-- a word in quotes and a space, and nothing where there is no word
abbrev pub quoted : List ℕ → List ℕ
quoted [] = []
quoted (b ∷ bs) = (codes "`" ++ shown_word (b ∷ bs)) ++ codes "` "

-- Which lines of an input are handed on, and what of a line is.
use Rattle.std.specs.Prelude.{◌≡◌, ◌++◌, ◌⊎◌, ℕ, List, [], ◌∷◌, drop, Option, Some, None, IsTrue}
use Rattle.script_lines.specs.Scripts.{Stage, Bad, line_of, is_good, stage_after_line}

-- what is still to be given of a line and the line feed behind it, where so many bytes were given, if it is not given whole
abbrev pub to_give : Option ℕ → List ℕ → List ℕ
to_give None line = []
to_give (Some n) line = drop n line ++ 10 ∷ []

-- What a step further comes to, from one stage to another: the line is to be given, is good, and the stage goes on by it; or there is
-- no further line, or it is bad, and the stage stays.
abbrev pub IsJudged : Option ℕ → Stage → Stage → ℕ → ℕ → List ℕ → Type 0
IsJudged (Some n) old new number number' line = (n ≡ 0) × IsTrue (is_good (line_of old line)) × (new ≡ stage_after_line old (line_of old line))
IsJudged None old new number number' line = (new ≡ old) × ((number' ≡ number) ⊎ (line_of old line ≡ Bad))

-- a line is to be given from its start, is good, and the stage goes on by it
abbrev pub IsFound : Option ℕ → Stage → Stage → List ℕ → Type 0
IsFound given old new line = (given ≡ Some 0) × IsTrue (is_good (line_of old line)) × (new ≡ stage_after_line old (line_of old line))

-- Truth values as they are written: `T` and `F`.
use Rattle.std.specs.Prelude.{ℕ, Bool, true, false, List, Option, Some, None, if◌then◌else◌, codes}
use Rattle.cvl_text.specs.Words.{same_text}

abbrev pub truth_text : Bool → List ℕ
truth_text true = codes "T"
truth_text false = codes "F"

-- the truth value whose text this is
abbrev pub truth_of : List ℕ → Option Bool
truth_of text =
    if same_text text (codes "T") then Some true
    else (if same_text text (codes "F") then Some false else None)

-- What is known of a bad line.
use Rattle.std.specs.Prelude.{◌≡◌, ◌<◌, ◌==◌, ℕ, Bool, true, List, length, if◌then◌else◌}
use Rattle.bad_lines.specs.declared.place.Place.{Place}
use Rattle.bad_lines.specs.declared.place.Place.TheVariants as places
use Rattle.cvl_text.specs.Tasks.{Task}
use Rattle.script_lines.specs.declared.bad_line.BadLine.{BadLine}
use Rattle.script_lines.specs.declared.bad_line.BadLine.TheVariants as lines
use Rattle.script_lines.specs.Scripts.{Stage, AtStart, Outside, Inside, line_limit}

-- the place of a line at a stage
abbrev pub place_at : Stage → Place
place_at AtStart = places.First
place_at (Outside edition) = places.Outside edition
place_at (Inside caller tasks) = places.Inside caller (length tasks)

-- it is a line of this text, at this place where that tells why it is bad
abbrev pub IsText : BadLine → List ℕ → Place → Type 0
IsText (lines.Text line place) text here = (line.now ≡ text) × (place ≡ here)
IsText lines.TooLong text here = line_limit < length text
IsText (lines.OpenAtEnd caller) text here = ⊥

-- it stands behind the lines that were gone to, at this stage: the end of the input, where a block is open, or a line that is too long
abbrev pub IsBehind : BadLine → Bool → Stage → Type 0
IsBehind (lines.Text line place) ended stage = ⊥
IsBehind lines.TooLong ended stage = Unit {0}
IsBehind (lines.OpenAtEnd caller) ended stage = (ended ≡ true) × (tasks : List Task) × (stage ≡ Inside caller tasks)

-- The lines of a text of several calls, and what they ask for.
use Rattle.std.specs.Prelude.{◌≡◌, ℕ, suc, Bool, ◌==◌, List, [], ◌∷◌, map, Option, Some, None, Result, Ok, Err, if◌then◌else◌}
use Rattle.cvl_text.specs.declared.call.Call.{Call}
use Rattle.cvl_text.specs.declared.fault.ReadFault.{ReadFault}
use Rattle.cvl_text.specs.declared.fault.ReadFault.TheVariants.{BadCall, OutOfMemory}
use Rattle.cvl_text.specs.Tasks.{Task, task_of}
use Rattle.vector_memory.specs.declared.edition.Edition.TheVariants as edition
use Rattle.cvl_text.specs.Lines.{task_in}
use Rattle.cvl_text.specs.Words.{words_of}
use Rattle.std.specs.Global.{Vec}

-- a line feed
abbrev pub is_feed : ℕ → Bool
is_feed b = b == 10

-- how many bytes stand in front of the first line feed
abbrev pub line_len : List ℕ → ℕ
line_len [] = 0
line_len (b ∷ bs) = if is_feed b then 0 else suc (line_len bs)

abbrev pub onto_first : ℕ → List (List ℕ) → List (List ℕ)
onto_first b [] = (b ∷ []) ∷ []
onto_first b (line ∷ lines) = (b ∷ line) ∷ lines

-- The lines that line feeds end or part. What stands behind the last line feed is a line unless it is empty.
abbrev pub lines_of : List ℕ → List (List ℕ)
lines_of [] = []
lines_of (b ∷ bs) = if is_feed b then [] ∷ lines_of bs else onto_first b (lines_of bs)

abbrev pub front_of : {Y : Type 0} → Y → Option (List Y) → Option (List Y)
front_of y None = None
front_of y (Some ys) = Some (y ∷ ys)

abbrev pub before : {Y : Type 0} → Option Y → Option (List Y) → Option (List Y)
before None others = None
before (Some y) others = front_of y others

-- what each gives, or nothing where one gives none
abbrev pub each : {X Y : Type 0} → (X → Option Y) → List X → Option (List Y)
each f [] = Some []
each f (x ∷ xs) = before (f x) (each f xs)

-- what a line asks for
abbrev pub line_task : List ℕ → Option Task
line_task line = task_in edition.One (words_of line)

-- what the lines of a text ask for, unless one of them is no call
abbrev pub tasks_in : List ℕ → Option (List Task)
tasks_in text = each line_task (lines_of text)

-- the calls of all lines; a bad line; or want of memory
abbrev pub ReadsAll : Result (Vec Call) ReadFault → Option (List Task) → Type 0
ReadsAll (Ok calls) said = said ≡ Some (map task_of calls.items)
ReadsAll (Err BadCall) said = said ≡ None
ReadsAll (Err OutOfMemory) said = Unit {0}

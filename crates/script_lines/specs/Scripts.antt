-- Lines of a script, and what is written for them. What a line says depends on the stage that the script is at.
use Rattle.std.specs.Prelude.{◌≡◌, ℕ, ◌+◌, ◌-◌, ◌*◌, Bool, true, false, not, ◌&&◌, ◌==◌, nat_lt, nat_le, List, [], ◌∷◌, ◌++◌, length, Option, Some, None, if◌then◌else◌, codes}
use Rattle.std.specs.List.{flat_map, list_all}
use Rattle.std.specs.Fmt.{decimal}
use Rattle.vector_memory.specs.declared.edition.Edition.{Edition}
use Rattle.vector_memory.specs.declared.edition.Edition.TheVariants.{One, Two}
use Rattle.vector_memory.specs.States.{State, bounds_in, empty}
use Rattle.cvl_text.specs.Tasks.{Task}
use Rattle.cvl_text.specs.Words.{same_text, words_of}
use Rattle.cvl_text.specs.Lines.{task_in}
use Rattle.cvl_calls.specs.Steps.{stepped}
use Rattle.cvl_text.specs.Answers.{Answer}
use Rattle.cvl_text.specs.Texts.{answer_text}
use Rattle.call_history.specs.Blocks.{block_limit}

-- where a script stands between two lines
pub data Stage : Type 0 where
  -- no line was gone through
  AtStart : Stage
  -- outside a block of a script of this edition
  Outside : Edition → Stage
  -- in a block of this caller, whose lines ask for these tasks so far
  Inside : ℕ → List Task → Stage

-- what a line says
pub data Line : Type 0 where
  Skipped : Line
  Bad : Line
  -- the script is of edition 2
  Heads : Line
  -- the caller asks for a task
  Asks : ℕ → Task → Line
  -- a block of the caller begins
  Opens : ℕ → Line
  -- the block goes on by a task
  Adds : Task → Line
  -- the block of the caller ends, which asks for these tasks
  Closes : ℕ → List Task → Line

-- the greatest number of bytes of a line
abbrev pub line_limit : ℕ
line_limit = 1048576

abbrev pub is_digit : ℕ → Bool
is_digit b = nat_le 48 b && nat_le b 57

-- the caller that a line's first word names
abbrev pub caller_named : List ℕ → Option ℕ
caller_named (d ∷ e ∷ []) = if is_digit d && e == 58 then Some (d - 48) else None
caller_named (d ∷ e ∷ f ∷ []) =
    if (is_digit d && is_digit e) && ((f == 58 && not (d == 48)) && nat_lt (10 * (d - 48) + (e - 48)) 64)
    then Some (10 * (d - 48) + (e - 48)) else None
caller_named word = None

abbrev pub is_comment : List ℕ → Bool
is_comment [] = false
is_comment (b ∷ bs) = b == 35

-- the head of a script of edition 2
abbrev pub is_head : List ℕ → Bool
is_head text = same_text text (codes "cvl 2")

-- the words are this one
abbrev pub is_alone : List ℕ → List (List ℕ) → Bool
is_alone word [] = false
is_alone word (w ∷ []) = same_text w word
is_alone word (w ∷ v ∷ ws) = false

-- a single call of a caller
abbrev pub asked : ℕ → Option Task → Line
asked caller None = Bad
asked caller (Some task) = Asks caller task

-- one more call of a block
abbrev pub added : Option Task → Line
added None = Bad
added (Some task) = Adds task

-- a block that has these tasks goes on, if it has not as many as a block may have
abbrev pub one_more : List Task → Option Task → Line
one_more tasks task = if nat_le block_limit (length tasks) then Bad else added task

-- the end of a block
abbrev pub closed : ℕ → List Task → Line
closed caller [] = Bad
closed caller (t ∷ ts) = Closes caller (t ∷ ts)

-- what a caller says at a stage, by the words behind the one that names it
abbrev pub said : Stage → ℕ → List (List ℕ) → Line
said AtStart caller words = asked caller (task_in One words)
said (Outside One) caller words = asked caller (task_in One words)
said (Outside Two) caller words = if is_alone (codes "{") words then Opens caller else asked caller (task_in Two words)
said (Inside own tasks) caller words =
    if caller == own
    then (if is_alone (codes "}") words then closed own tasks else one_more tasks (task_in Two words))
    else Bad

abbrev pub said_by : Stage → Option ℕ → List (List ℕ) → Line
said_by stage None words = Bad
said_by stage (Some caller) words = said stage caller words

abbrev pub line_in : Stage → List (List ℕ) → Line
line_in stage [] = Skipped
line_in stage (w ∷ ws) = if is_comment w then Skipped else said_by stage (caller_named w) ws

-- what a line says at a stage where it is no head
unfoldable pub plain_line : Stage → List ℕ → Line
plain_line stage text = if nat_lt line_limit (length text) then Bad else line_in stage (words_of text)

-- what a line says at a stage
unfoldable pub line_of : Stage → List ℕ → Line
line_of AtStart text = if is_head text then Heads else plain_line (Outside One) text
line_of (Outside edition) text = plain_line (Outside edition) text
line_of (Inside caller tasks) text = plain_line (Inside caller tasks) text

abbrev pub is_good : Line → Bool
is_good Skipped = true
is_good Bad = false
is_good Heads = true
is_good (Asks caller task) = true
is_good (Opens caller) = true
is_good (Adds task) = true
is_good (Closes caller tasks) = true

-- a script that has begun and has no head is of edition 1
abbrev pub begun : Stage → Stage
begun AtStart = Outside One
begun (Outside edition) = Outside edition
begun (Inside caller tasks) = Inside caller tasks

-- the block goes on by a task
abbrev pub longer : Stage → Task → Stage
longer AtStart task = AtStart
longer (Outside edition) task = Outside edition
longer (Inside caller tasks) task = Inside caller (tasks ++ task ∷ [])

-- the stage after a line, and after some lines
abbrev pub stage_after_line : Stage → Line → Stage
stage_after_line stage Skipped = begun stage
stage_after_line stage Bad = begun stage
stage_after_line stage Heads = Outside Two
stage_after_line stage (Asks caller task) = begun stage
stage_after_line stage (Opens caller) = Inside caller []
stage_after_line stage (Adds task) = longer stage task
stage_after_line stage (Closes caller tasks) = Outside Two

abbrev pub stage_after : Stage → List (List ℕ) → Stage
stage_after stage [] = stage
stage_after stage (l ∷ ls) = stage_after (stage_after_line stage (line_of stage l)) ls

-- the memory after some tasks one by one, and the answer to each of them
abbrev pub memory_after_tasks : State → List Task → State
memory_after_tasks m [] = m
memory_after_tasks m (t ∷ ts) = memory_after_tasks (stepped m t).memory ts

abbrev pub answers_to : State → List Task → List Answer
answers_to m [] = []
answers_to m (t ∷ ts) = (stepped m t).answer ∷ answers_to (stepped m t).memory ts

-- a reply as a line: the caller, a space and the reply's text
abbrev pub reply_line : ℕ → Answer → List ℕ
reply_line caller answer = (decimal caller ++ 32 ∷ answer_text answer) ++ 10 ∷ []

-- The memory after a line, and what is written for it. A head makes a memory of edition 2 with the room that there was.
abbrev pub memory_after_line : State → Line → State
memory_after_line m Skipped = m
memory_after_line m Bad = m
memory_after_line m Heads = empty (bounds_in Two m.room)
memory_after_line m (Asks caller task) = (stepped m task).memory
memory_after_line m (Opens caller) = m
memory_after_line m (Adds task) = m
memory_after_line m (Closes caller tasks) = memory_after_tasks m tasks

abbrev pub memory_after : State → Stage → List (List ℕ) → State
memory_after m stage [] = m
memory_after m stage (l ∷ ls) = memory_after (memory_after_line m (line_of stage l)) (stage_after_line stage (line_of stage l)) ls

abbrev pub line_text : State → Line → List ℕ
line_text m Skipped = []
line_text m Bad = []
line_text m Heads = []
line_text m (Asks caller task) = reply_line caller (stepped m task).answer
line_text m (Opens caller) = []
line_text m (Adds task) = []
line_text m (Closes caller tasks) = flat_map (reply_line caller) (answers_to m tasks)

-- the replies to lines up to the first bad one
abbrev pub text_from : State → Stage → List (List ℕ) → List ℕ
text_from m stage [] = []
text_from m stage (l ∷ ls) =
    if is_good (line_of stage l)
    then line_text m (line_of stage l) ++ text_from (memory_after_line m (line_of stage l)) (stage_after_line stage (line_of stage l)) ls
    else []

-- the number of the first bad line of lines that follow the first n
abbrev pub first_bad : Stage → ℕ → List (List ℕ) → Option ℕ
first_bad stage n [] = None
first_bad stage n (l ∷ ls) = if is_good (line_of stage l) then first_bad (stage_after_line stage (line_of stage l)) (n + 1) ls else Some (n + 1)

-- Where n lines are good and end at this stage, the end is bad if a block is open there: as a line behind the last.
abbrev pub bad_end : Stage → ℕ → Option ℕ
bad_end AtStart n = None
bad_end (Outside edition) n = None
bad_end (Inside caller tasks) n = Some (n + 1)

abbrev pub or_bad_end : Option ℕ → Stage → ℕ → Option ℕ
or_bad_end None stage n = bad_end stage n
or_bad_end (Some number) stage n = Some number

-- the pieces before, between and behind the line feeds
abbrev pub onto_first_line : ℕ → List (List ℕ) → List (List ℕ)
onto_first_line b [] = (b ∷ []) ∷ []
onto_first_line b (l ∷ ls) = (b ∷ l) ∷ ls

abbrev pub cut_lines : List ℕ → List (List ℕ)
cut_lines [] = [] ∷ []
cut_lines (b ∷ bs) = if b == 10 then [] ∷ cut_lines bs else onto_first_line b (cut_lines bs)

-- all lines, the last only if it is not empty
abbrev pub but_empty_last : List (List ℕ) → List (List ℕ)
but_empty_last [] = []
but_empty_last (l ∷ []) = if length l == 0 then [] else l ∷ []
but_empty_last (l ∷ k ∷ ls) = l ∷ but_empty_last (k ∷ ls)

-- the lines of a script
unfoldable pub lines_of : List ℕ → List (List ℕ)
lines_of script = but_empty_last (cut_lines script)

-- the lines of a script that a line feed ends
abbrev pub but_last : List (List ℕ) → List (List ℕ)
but_last [] = []
but_last (l ∷ []) = []
but_last (l ∷ k ∷ ls) = l ∷ but_last (k ∷ ls)

unfoldable pub whole_lines : List ℕ → List (List ℕ)
whole_lines script = but_last (cut_lines script)

-- the first bad line of a script, its end included
unfoldable pub bad_line_of : List ℕ → Option ℕ
bad_line_of script = or_bad_end (first_bad AtStart 0 (lines_of script)) (stage_after AtStart (lines_of script)) (length (lines_of script))

-- what is written at the first bad line
abbrev pub bad_text : ℕ → List ℕ
bad_text number = (codes "bad line " ++ decimal number) ++ 10 ∷ []

abbrev pub bad_text_of : Option ℕ → List ℕ
bad_text_of None = []
bad_text_of (Some number) = bad_text number

-- what is written for a script: the replies to its lines up to the first bad one, and the words on that
unfoldable pub text_of : State → List ℕ → List ℕ
text_of m script = text_from m AtStart (lines_of script) ++ bad_text_of (bad_line_of script)

-- the edition of a script at a stage
abbrev pub edition_at : Stage → Edition
edition_at AtStart = One
edition_at (Outside edition) = edition
edition_at (Inside caller tasks) = Two

-- the edition of some lines: 2 where the first is its head
abbrev pub edition_of : List (List ℕ) → Edition
edition_of [] = One
edition_of (l ∷ ls) = if is_head l then Two else One

-- no line feed stands in the text
abbrev pub IsOneLine : List ℕ → Type 0
IsOneLine text = list_all (λ b. not (b == 10)) text ≡ true

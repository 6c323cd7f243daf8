-- What running the lines of an input has come to.
-- A run has served some lines, written a part of their text, and holds back the rest of it, the replies that wait.
use Rattle.std.specs.Prelude.{◌≡◌, ◌++◌, ◌<◌, ℕ, Bool, true, false, List, [], ◌∷◌, Option, Some, None, Result, Ok, Err}
use Rattle.vector_memory.specs.States.{State}
use Rattle.script_lines.specs.declared.fault.RunFault.{RunFault}
use Rattle.script_lines.specs.declared.fault.RunFault.TheVariants as stops
use Rattle.script_lines.specs.declared.fault.InputFault.TheVariants as halts
use Rattle.script_lines.specs.declared.fault.ServeFault.{ServeFault}
use Rattle.script_lines.specs.declared.fault.ServeFault.TheVariants as ends
use Rattle.script_lines.specs.Scripts.{Stage, AtStart, text_from, first_bad, stage_after, lines_of, whole_lines, text_of, bad_line_of, bad_text, memory_after}
use Rattle.script_lines.specs.Streams.{Awaits, HasBegun}
use Rattle.script_lines.specs.Walks.{Walk, Place, HasWalked}

-- made is the text of some first lines of a script, none of which is bad; a block that is open behind them has none
pub record IsTextOfSome (m : State) (script made : List ℕ) : Type 0 where
  pub first : List (List ℕ)
  pub others : List (List ℕ)
  pub lines : lines_of script ≡ first ++ others
  pub good : first_bad AtStart 0 first ≡ None
  pub text : text_from m AtStart first ≡ made

-- A read failed: a beginning of the input was read, whose whole lines are all good, and the rest is left.
pub record IsCutShort (input : List ℕ) (left : Option (List ℕ)) : Type 0 where
  pub read : List ℕ
  pub rest : List ℕ
  pub input_is : input ≡ read ++ rest
  pub left_is : left ≡ Some rest
  pub good : first_bad AtStart 0 (whole_lines read) ≡ None

-- The run stopped where a read failed: it had written the text of the whole lines that were read.
pub record IsReadStop (m : State) (input : List ℕ) (left old new : Option (List ℕ)) : Type 0 where
  pub cut : IsCutShort input left
  pub text : Awaits old new [] (text_from m AtStart (whole_lines cut.read))

-- What was written when a run over an input stopped: at its first bad line the whole text, for want of memory the text of some first
-- lines, where a write failed a beginning of the text; where a read failed, left is what the reader has left.
abbrev pub IsRunStop : RunFault → State → List ℕ → Option (List ℕ) → Option (List ℕ) → Option (List ℕ) → Type 0
IsRunStop (stops.BadLine number) m input left old new = (bad_line_of input ≡ Some number) × Awaits old new [] (text_of m input)
IsRunStop stops.OutOfMemory m input left old new = (made : List ℕ) × IsTextOfSome m input made × Awaits old new [] made
IsRunStop stops.Read m input left old new = IsReadStop m input left old new
IsRunStop stops.Write m input left old new = HasBegun old new (text_of m input)
IsRunStop (stops.Stopped worker) m input left old new = ⊥
IsRunStop stops.Unfinished m input left old new = ⊥

-- What a run over an input comes to, with what the reader has left and what was written: on Ok no line is bad and the whole text is written.
abbrev pub Runs : Result (Unit {0}) RunFault → State → List ℕ → Option (List ℕ) → Option (List ℕ) → Option (List ℕ) → Type 0
Runs (Ok done) m input left old new = (bad_line_of input ≡ None) × Awaits old new [] (text_of m input)
Runs (Err fault) m input left old new = IsRunStop fault m input left old new

-- These first lines of an input were served, on memory m at first: a part of their text was written, and waiting is the rest.
pub record HasServed (m : State) (old now : Option (List ℕ)) (first : List (List ℕ)) (memory : State) (stage : Stage) (waiting : List ℕ) : Type 0 where
  pub good : first_bad AtStart 0 first ≡ None
  pub memory_is : memory ≡ memory_after m AtStart first
  pub stage_is : stage ≡ stage_after AtStart first
  pub text : Awaits old now waiting (text_from m AtStart first)

-- some lines were gone through, and all of them were served
pub record ServesOn (m : State) (input : List ℕ) (left old now : Option (List ℕ)) (walk : Walk) (memory : State) (stage : Stage) (waiting : List ℕ) : Type 0 where
  pub first : List (List ℕ)
  pub walked : HasWalked input left first walk
  pub served : HasServed m old now first memory stage waiting

-- all were served but the last
pub record StandsAt (m : State) (input : List ℕ) (left old now : Option (List ℕ)) (place : Place) (memory : State) (stage : Stage) (waiting : List ℕ) : Type 0 where
  pub first : List (List ℕ)
  pub walked : HasWalked input left (first ++ place.line ∷ []) place.walk
  pub served : HasServed m old now first memory stage waiting

-- What serving the lines of an input came to, before the replies that wait are written.
abbrev pub HasEnded : Result (Unit {0}) ServeFault → State → List ℕ → Option (List ℕ) → Option (List ℕ) → Option (List ℕ) → List ℕ → Type 0
HasEnded (Ok done) m input left old now waiting = (bad_line_of input ≡ None) × Awaits old now waiting (text_of m input)
HasEnded (Err (ends.Input (halts.BadLine number))) m input left old now waiting =
    (bad_line_of input ≡ Some number) × (made : List ℕ) × (text_of m input ≡ made ++ bad_text number) × Awaits old now waiting made
HasEnded (Err (ends.Input halts.OutOfMemory)) m input left old now waiting = (made : List ℕ) × IsTextOfSome m input made × Awaits old now waiting made
HasEnded (Err (ends.Input halts.Read)) m input left old now waiting = (cut : IsCutShort input left)
    × IsTextOfSome m input (text_from m AtStart (whole_lines cut.read)) × Awaits old now waiting (text_from m AtStart (whole_lines cut.read))
HasEnded (Err ends.Write) m input left old now waiting = HasBegun old now (text_of m input)

-- What one step of it came to: true where more is to be served.
abbrev pub Steps : Result Bool ServeFault → State → List ℕ → Option (List ℕ) → Option (List ℕ) → Option (List ℕ) → Walk → State → Stage → List ℕ → Type 0
Steps (Ok true) m input left old now walk memory stage waiting = ServesOn m input left old now walk memory stage waiting
Steps (Ok false) m input left old now walk memory stage waiting = HasEnded (Ok tt) m input left old now waiting
Steps (Err fault) m input left old now walk memory stage waiting = HasEnded (Err fault) m input left old now waiting

-- What serving says of the counts of failures: that of writes rises where a write failed, and that of reads where a read failed.
abbrev pub CountsFailures : {T : Type 0} → Result T ServeFault → ℕ → ℕ → ℕ → ℕ → Type 0
CountsFailures (Ok done) reads reads' writes writes' = (reads' ≡ reads) × (writes' ≡ writes)
CountsFailures (Err (ends.Input (halts.BadLine number))) reads reads' writes writes' = writes' ≡ writes
CountsFailures (Err (ends.Input halts.OutOfMemory)) reads reads' writes writes' = writes' ≡ writes
CountsFailures (Err (ends.Input halts.Read)) reads reads' writes writes' = (reads < reads') × (writes' ≡ writes)
CountsFailures (Err ends.Write) reads reads' writes writes' = writes < writes'

-- it holds unless a write failed
abbrev pub UnlessWrite : {T : Type 0} → Result T ServeFault → Type 0 → Type 0
UnlessWrite (Ok done) P = P
UnlessWrite (Err (ends.Input halt)) P = P
UnlessWrite (Err ends.Write) P = Unit {0}

-- A fault of reading or writing comes only where that count of failures rose, and no run ends with a stopped worker.
abbrev pub IsCounted : Result (Unit {0}) RunFault → ℕ → ℕ → ℕ → ℕ → Type 0
IsCounted (Err stops.Read) reads reads' writes writes' = reads < reads'
IsCounted (Err stops.Write) reads reads' writes writes' = writes < writes'
IsCounted (Err (stops.BadLine number)) reads reads' writes writes' = Unit {0}
IsCounted (Err stops.OutOfMemory) reads reads' writes writes' = Unit {0}
IsCounted (Err (stops.Stopped worker)) reads reads' writes writes' = ⊥
IsCounted (Err stops.Unfinished) reads reads' writes writes' = Unit {0}
IsCounted (Ok done) reads reads' writes writes' = Unit {0}

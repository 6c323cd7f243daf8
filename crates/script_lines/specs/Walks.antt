-- How the lines of an input are gone through, one after the other.
use Rattle.std.specs.Prelude.{◌≡◌, ◌+◌, ◌++◌, ◌<◌, ◌≤◌, ◌^◌, ◌⊎◌, ℕ, Bool, true, false, List, [], ◌∷◌, length, Option, Some, None, Result, Ok, Err}
use Rattle.std.specs.Io.KnownBytes.{prepend_known}
use Rattle.script_lines.specs.declared.fault.InputFault.{InputFault}
use Rattle.script_lines.specs.declared.fault.InputFault.TheVariants as halts
use Rattle.script_lines.specs.declared.line.LineFault.{LineFault}
use Rattle.script_lines.specs.declared.line.LineFault.TheVariants as faults
use Rattle.script_lines.specs.declared.fault.RunFault.{RunFault}
use Rattle.script_lines.specs.declared.fault.RunFault.TheVariants as stops
use Rattle.script_lines.specs.Scripts.{AtStart, Bad, IsOneLine, line_of, stage_after, bad_end, cut_lines, lines_of, whole_lines}

-- a block that was read: a line of it, and the rest behind that line
pub record Cut : Type 0 where
  pub line : List ℕ
  pub rest : List ℕ

-- What was read of an input and is not gone through, how many lines were gone through, and whether no more is to be read.
-- At the end of the input a line feed is put behind a last line that has none.
pub record Walk : Type 0 where
  pub unread : List ℕ
  pub number : ℕ
  pub ended : Bool

-- nothing is read yet
abbrev pub unwalked : Walk
unwalked = record { unread = []; number = 0; ended = false }

-- a walk, and the line that it came to last
pub record Place : Type 0 where
  pub walk : Walk
  pub line : List ℕ

-- the line that a block ends, which may have begun in earlier blocks and is joined then
abbrev pub line_at : List ℕ → List ℕ → List ℕ
line_at [] end = end
line_at (b ∷ bs) end = b ∷ bs

-- a line was cut off from the front, or there is no whole line
abbrev pub Cuts : Bool → Cut → Cut → Type 0
Cuts true old new = (old.rest ≡ new.line ++ 10 ∷ new.rest) × IsOneLine new.line
Cuts false old new = (new ≡ old) × IsOneLine old.rest

-- the walk went to the next line
pub record IsNextLine (old : Walk) (line : List ℕ) (new : Walk) : Type 0 where
  pub cut : old.unread ≡ line ++ 10 ∷ new.unread
  pub one_line : IsOneLine line
  pub number : new.number ≡ old.number + 1
  pub ended : new.ended ≡ old.ended

-- it did, or no whole line was read
abbrev pub Advances : Bool → Walk → Place → Type 0
Advances true old new = IsNextLine old new.line new.walk
Advances false old new = (new.walk ≡ old) × IsOneLine old.unread

-- These bytes were gone through or are to be, and left is what is to be read. At the end of the input each of its lines has a line feed.
abbrev pub IsFed : Bool → List ℕ → List ℕ → Option (List ℕ) → Type 0
IsFed false input fed left = prepend_known fed left ≡ Some input
IsFed true input fed left = lines_of input ≡ whole_lines fed

-- these are the lines of the input that were gone through
pub record HasWalked (input : List ℕ) (left : Option (List ℕ)) (first : List (List ℕ)) (walk : Walk) : Type 0 where
  pub fed : List ℕ
  pub fed_is : IsFed walk.ended input fed left
  pub cuts : (more : List ℕ) → cut_lines (fed ++ more) ≡ first ++ cut_lines (walk.unread ++ more)
  pub number : walk.number ≡ length first

-- the line behind these is bad, and has this number
pub record IsBadNext (input : List ℕ) (first : List (List ℕ)) (number : ℕ) : Type 0 where
  pub line : List ℕ
  pub others : List (List ℕ)
  pub lines : lines_of input ≡ first ++ line ∷ others
  pub bad : line_of (stage_after AtStart first) line ≡ Bad
  pub number_is : number ≡ length first + 1

-- these are all lines, and the end behind them is bad, since a block is open there
pub record IsOpenEnd (input : List ℕ) (first : List (List ℕ)) (number : ℕ) : Type 0 where
  pub all : lines_of input ≡ first
  pub bad : bad_end (stage_after AtStart first) (length first) ≡ Some number

-- the input was read up to here, and these are its whole lines
pub record IsReadUpTo (input : List ℕ) (first : List (List ℕ)) (left : Option (List ℕ)) : Type 0 where
  pub read : List ℕ
  pub rest : List ℕ
  pub input_is : input ≡ read ++ rest
  pub left_is : left ≡ Some rest
  pub lines : whole_lines read ≡ first

-- why an input is not gone through to its end
abbrev pub IsHalt : InputFault → List ℕ → List (List ℕ) → Option (List ℕ) → Type 0
IsHalt (halts.BadLine number) input first left = IsBadNext input first number ⊎ IsOpenEnd input first number
IsHalt halts.OutOfMemory input first left = Unit {0}
IsHalt halts.Read input first left = IsReadUpTo input first left

-- what reading more comes to: there is more, or these were all lines
abbrev pub Fills : Result Bool InputFault → List ℕ → List (List ℕ) → Option (List ℕ) → Walk → Type 0
Fills (Ok true) input first left walk = HasWalked input left first walk
Fills (Ok false) input first left walk = lines_of input ≡ first
Fills (Err fault) input first left walk = IsHalt fault input first left

-- the same where the end is judged as well: no block is open there
abbrev pub FillsOrEnds : Result Bool InputFault → List ℕ → List (List ℕ) → Option (List ℕ) → Walk → Type 0
FillsOrEnds (Ok true) input first left walk = HasWalked input left first walk
FillsOrEnds (Ok false) input first left walk = (lines_of input ≡ first) × (bad_end (stage_after AtStart first) (length first) ≡ None)
FillsOrEnds (Err fault) input first left walk = IsHalt fault input first left

-- the fault of an input at a line of this number
abbrev pub halt_at : ℕ → LineFault → InputFault
halt_at number faults.Bad = halts.BadLine number
halt_at number faults.OutOfMemory = halts.OutOfMemory

abbrev pub run_fault : InputFault → RunFault
run_fault (halts.BadLine number) = stops.BadLine number
run_fault halts.OutOfMemory = stops.OutOfMemory
run_fault halts.Read = stops.Read

-- how many line feeds may still be put behind the input
abbrev pub feeds_left : Bool → ℕ
feeds_left false = 1
feeds_left true = 0

-- at most how many bytes are still to be gone through, where at most limit are to be read
abbrev pub bytes_left : Walk → ℕ → ℕ
bytes_left walk limit = (length walk.unread + limit) + feeds_left walk.ended

-- the numbers of all lines can be counted
abbrev pub IsCountable : Walk → ℕ → Type 0
IsCountable walk limit = walk.number + bytes_left walk limit ≤ 2 ^ 63

-- what falls with each line and each block
abbrev pub work_left : Walk → ℕ → ℕ
work_left walk limit = bytes_left walk limit + (limit + feeds_left walk.ended)

-- a step further
pub record GoesOn (old : Walk) (limit : ℕ) (new : Walk) (limit' : ℕ) : Type 0 where
  pub countable : new.number + bytes_left new limit' ≤ old.number + bytes_left old limit
  pub less : work_left new limit' < work_left old limit

-- a count of failed reads rises where a read failed
abbrev pub CountsReads : Result Bool InputFault → ℕ → ℕ → Type 0
CountsReads (Ok more) old new = new ≡ old
CountsReads (Err (halts.BadLine number)) old new = new ≡ old
CountsReads (Err halts.OutOfMemory) old new = new ≡ old
CountsReads (Err halts.Read) old new = old < new

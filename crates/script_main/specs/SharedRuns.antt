-- What running the callers of a script in threads of their own comes to.
use Rattle.std.specs.Prelude.{◌≡◌, ◌⊎◌, ℕ, List, [], Option, Some, None, Result, Ok, Err, Vec}
use Rattle.std.specs.Global.{Global}
use Rattle.vector_memory.specs.States.{bounds_in}
use Rattle.cvl_text.specs.declared.reply.Reply.{Reply}
use Rattle.call_history.specs.declared.request.Job.{Job}
use Rattle.call_history.specs.Books.{BookState}
use Rattle.script_lines.specs.declared.script.Script.{Script}
use Rattle.script_lines.specs.declared.fault.RunFault.{RunFault}
use Rattle.script_lines.specs.declared.fault.RunFault.TheVariants as stops
use Rattle.script_lines.specs.Scripts.{lines_of, bad_line_of, bad_text, edition_of}
use Rattle.script_lines.specs.Streams.{Awaits, HasBegun}
use Rattle.script_lines.specs.Runs.{IsCutShort}
use Rattle.script_lines.specs.Readings.{lists_of, AreJobsOf}
use Rattle.script_main.specs.Reports.{answers_of, report_text}
use Rattle.script_main.specs.Settles.{IsSettled}

-- This text is the report of a settled run of the jobs of these lines, a worker for each caller, on a machine of their edition.
pub record IsReportOf (room : ℕ) (lines : List (List ℕ)) (text : List ℕ) : Type 0 where
  pub scripts : List (List Job)
  pub replies : Vec (Vec Reply Global) Global
  pub book : BookState
  pub jobs : AreJobsOf scripts lines
  pub settled : IsSettled (bounds_in (edition_of lines) room) scripts replies book
  pub text_is : text ≡ report_text (answers_of replies) book

-- nothing was written
abbrev pub IsUnwritten : Option (List ℕ) → Option (List ℕ) → Type 0
IsUnwritten old new = new ≡ old

-- no line is bad, and a beginning of such a report was written
abbrev pub HasBegunReport : ℕ → List ℕ → Option (List ℕ) → Option (List ℕ) → Type 0
HasBegunReport room input old new = (bad_line_of input ≡ None) × (text : List ℕ) × IsReportOf room (lines_of input) text × HasBegun old new text

-- a beginning of the words on the first bad line was written
abbrev pub HasBegunBadLine : List ℕ → Option (List ℕ) → Option (List ℕ) → Type 0
HasBegunBadLine input old new = (number : ℕ) × (bad_line_of input ≡ Some number) × HasBegun old new (bad_text number)

-- What such a run over an input comes to, with what the reader has left and what was written. On Ok no line is bad, and a whole
-- report is written. At a bad line nothing is written but the words on it.
abbrev pub RunsShared : Result (Unit {0}) RunFault → ℕ → List ℕ → Option (List ℕ) → Option (List ℕ) → Option (List ℕ) → Type 0
RunsShared (Ok done) room input left old new = (bad_line_of input ≡ None) × (text : List ℕ) × IsReportOf room (lines_of input) text × Awaits old new [] text
RunsShared (Err (stops.BadLine number)) room input left old new = (bad_line_of input ≡ Some number) × Awaits old new [] (bad_text number)
RunsShared (Err stops.OutOfMemory) room input left old new = IsUnwritten old new ⊎ HasBegunReport room input old new
RunsShared (Err stops.Read) room input left old new = IsCutShort input left × IsUnwritten old new
RunsShared (Err stops.Write) room input left old new = HasBegunBadLine input old new ⊎ HasBegunReport room input old new
RunsShared (Err (stops.Stopped worker)) room input left old new = ⊥
RunsShared (Err stops.Unfinished) room input left old new = (bad_line_of input ≡ None) × IsUnwritten old new

-- What reading a script comes to, where the words on a bad line are written.
abbrev pub IsReadWhole : Result Script RunFault → List ℕ → Option (List ℕ) → Option (List ℕ) → Option (List ℕ) → Type 0
IsReadWhole (Ok script) input left old new =
    (script.edition ≡ edition_of (lines_of input)) × (bad_line_of input ≡ None) × AreJobsOf (lists_of script.workers) (lines_of input) × IsUnwritten old new
IsReadWhole (Err (stops.BadLine number)) input left old new = (bad_line_of input ≡ Some number) × Awaits old new [] (bad_text number)
IsReadWhole (Err stops.OutOfMemory) input left old new = IsUnwritten old new
IsReadWhole (Err stops.Read) input left old new = IsCutShort input left × IsUnwritten old new
IsReadWhole (Err stops.Write) input left old new = HasBegunBadLine input old new
IsReadWhole (Err (stops.Stopped worker)) input left old new = ⊥
IsReadWhole (Err stops.Unfinished) input left old new = ⊥

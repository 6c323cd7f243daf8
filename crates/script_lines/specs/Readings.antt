-- What the callers of a script ask for, and what reading a script comes to.
use Rattle.std.specs.Prelude.{◌≡◌, ℕ, ◌+◌, ◌==◌, max, Bool, true, false, List, [], ◌∷◌, ◌++◌, length, map, slice_index_or, Option, Some, None, Result, Ok, Err, Vec, if◌then◌else◌}
use Rattle.std.specs.Global.{Global}
use Rattle.std.specs.List.{AllByRecursion}
use Rattle.cvl_text.specs.Tasks.{Task, task_of}
use Rattle.call_history.specs.declared.request.Job.{Job}
use Rattle.call_history.specs.declared.request.Job.TheVariants as jobs
use Rattle.call_history.specs.Fits.{calls_of, IsLawfulJob}
use Rattle.script_lines.specs.declared.fault.InputFault.{InputFault}
use Rattle.script_lines.specs.declared.fault.RunFault.{RunFault}
use Rattle.script_lines.specs.declared.fault.RunFault.TheVariants as stops
use Rattle.script_lines.specs.declared.script.Script.{Script}
use Rattle.script_lines.specs.Scripts.{Stage, AtStart, Line, Skipped, Bad, Heads, Asks, Opens, Adds, Closes, line_of, stage_after_line, stage_after, lines_of, first_bad, bad_line_of, edition_of, edition_at}
use Rattle.script_lines.specs.Walks.{Walk, HasWalked, run_fault}
use Rattle.script_lines.specs.Runs.{IsCutShort}

-- what a job asks for: a call, or the calls of a block
abbrev pub tasks_of_job : Job → List Task
tasks_of_job job = map task_of (calls_of job)

abbrev pub is_block : Job → Bool
is_block (jobs.One call) = false
is_block (jobs.Many calls) = true

-- a job as the lines of a script tell it: whether it is a block, and what it asks for
abbrev pub told : Job → Bool × List Task
told job = (is_block job, tasks_of_job job)

-- what caller k asks for in a line: a call, or the block that it closes
abbrev pub jobs_in : ℕ → Line → List (Bool × List Task)
jobs_in k Skipped = []
jobs_in k Bad = []
jobs_in k Heads = []
jobs_in k (Asks caller task) = if caller == k then (false, task ∷ []) ∷ [] else []
jobs_in k (Opens caller) = []
jobs_in k (Adds task) = []
jobs_in k (Closes caller tasks) = if caller == k then (true, tasks) ∷ [] else []

-- what caller k asks for in some lines from a stage on, job by job in order
abbrev pub jobs_from : ℕ → Stage → List (List ℕ) → List (Bool × List Task)
jobs_from k stage [] = []
jobs_from k stage (l ∷ ls) = jobs_in k (line_of stage l) ++ jobs_from k (stage_after_line stage (line_of stage l)) ls

-- how many callers there are up to the one of a line, counted from number 0 on
abbrev pub callers_in : Line → ℕ
callers_in Skipped = 0
callers_in Bad = 0
callers_in Heads = 0
callers_in (Asks caller task) = caller + 1
callers_in (Opens caller) = 0
callers_in (Adds task) = 0
callers_in (Closes caller tasks) = caller + 1

-- how many callers there are up to the greatest of some lines
abbrev pub caller_count : Stage → List (List ℕ) → ℕ
caller_count stage [] = 0
caller_count stage (l ∷ ls) = max (callers_in (line_of stage l)) (caller_count (stage_after_line stage (line_of stage l)) ls)

-- the jobs of each caller
abbrev pub lists_of : Vec (Vec Job Global) Global → List (List Job)
lists_of jobs = map (λ own. own.items) jobs.items

-- the jobs of caller k
abbrev pub jobs_at : ℕ → List (List Job) → List Job
jobs_at k lists = slice_index_or lists k []

-- each block has as many calls as a block may have
abbrev pub AreLawful : List (List Job) → Type 0
AreLawful lists = (k : ℕ) → AllByRecursion IsLawfulJob (jobs_at k lists)

-- The lists are the jobs of these lines: for each caller its own, in order, and no list behind that of the greatest caller.
pub record AreJobsOf (lists : List (List Job)) (lines : List (List ℕ)) : Type 0 where
  pub count : length lists ≡ caller_count AtStart lines
  pub jobs : (k : ℕ) → map told (jobs_at k lists) ≡ jobs_from k AtStart lines

-- what a job of a caller adds to the list of caller k
abbrev pub jobs_done : ℕ → ℕ → Job → List Job
jobs_done k caller job = if caller == k then job ∷ [] else []

pub record AddsJob (old new : List (List Job)) (caller : ℕ) (job : Job) : Type 0 where
  pub count : length new ≡ max (length old) (caller + 1)
  pub jobs : (k : ℕ) → jobs_at k new ≡ jobs_at k old ++ jobs_done k caller job

-- the lists have become longer by what a line asks for
pub record AddsLine (old new : List (List Job)) (line : Line) : Type 0 where
  pub count : length new ≡ max (length old) (callers_in line)
  pub jobs : (k : ℕ) → map told (jobs_at k new) ≡ map told (jobs_at k old) ++ jobs_in k line
  pub lawful : AreLawful old → AreLawful new

-- What reading an input into lists comes to, with what the reader has left: on Ok no line is bad, and the lists are the jobs
-- of all lines.
abbrev pub IsReadInto : Result (Unit {0}) RunFault → List (List Job) → List ℕ → Option (List ℕ) → Type 0
IsReadInto (Ok done) lists input left = (bad_line_of input ≡ None) × AreJobsOf lists (lines_of input)
IsReadInto (Err (stops.BadLine number)) lists input left = bad_line_of input ≡ Some number
IsReadInto (Err stops.OutOfMemory) lists input left = Unit {0}
IsReadInto (Err stops.Read) lists input left = IsCutShort input left
IsReadInto (Err stops.Write) lists input left = ⊥
IsReadInto (Err (stops.Stopped worker)) lists input left = ⊥
IsReadInto (Err stops.Unfinished) lists input left = ⊥

-- What reading a script comes to.
abbrev pub IsRead : Result Script RunFault → List ℕ → Option (List ℕ) → Type 0
IsRead (Ok script) input left = (script.edition ≡ edition_of (lines_of input)) × IsReadInto (Ok tt) (lists_of script.workers) input left
IsRead (Err fault) input left = IsReadInto (Err fault) [] input left

-- These lines of an input were gone through, and the lists are their jobs.
pub record HasRead (input : List ℕ) (left : Option (List ℕ)) (walk : Walk) (stage : Stage) (lists : List (List Job)) : Type 0 where
  pub first : List (List ℕ)
  pub walked : HasWalked input left first walk
  pub good : first_bad AtStart 0 first ≡ None
  pub stage_is : stage ≡ stage_after AtStart first
  pub jobs : AreJobsOf lists first

-- What reading comes to where it ends.
abbrev pub EndsReading : Result (Unit {0}) InputFault → Stage → List (List Job) → List ℕ → Option (List ℕ) → Type 0
EndsReading (Ok done) stage lists input left = (edition_at stage ≡ edition_of (lines_of input)) × IsReadInto (Ok tt) lists input left
EndsReading (Err fault) stage lists input left = IsReadInto (Err (run_fault fault)) [] input left

-- What one step of it comes to: true where more is to be read.
abbrev pub ReadsOn : Result Bool InputFault → Stage → List (List Job) → List ℕ → Option (List ℕ) → Walk → Type 0
ReadsOn (Ok true) stage lists input left walk = HasRead input left walk stage lists
ReadsOn (Ok false) stage lists input left walk = EndsReading (Ok tt) stage lists input left
ReadsOn (Err fault) stage lists input left walk = EndsReading (Err fault) stage lists input left

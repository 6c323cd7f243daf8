-- Who asks in a line, the call that is asked for, and what is to be done at a line.
use Rattle.std.specs.Prelude.{◌≡◌, ◌<◌, ◌≤◌, ℕ, Bool, true, false, List, length, map, Option, Some, None, Result, Ok, Err, IsSome, IsTrue}
use Rattle.std.specs.Borrow.{Bor}
use Rattle.cvl_text.specs.declared.call.Call.{Call}
use Rattle.cvl_text.specs.declared.fault.ReadFault.{ReadFault}
use Rattle.cvl_text.specs.declared.fault.ReadFault.TheVariants as reads
use Rattle.cvl_text.specs.Tasks.{Task, task_of}
use Rattle.cvl_text.specs.Lines.{task_in}
use Rattle.cvl_text.specs.Words.{words_of}
use Rattle.call_history.specs.declared.request.Job.{Job}
use Rattle.call_history.specs.declared.request.Job.TheVariants as jobs
use Rattle.call_history.specs.Callers.{caller_limit}
use Rattle.call_history.specs.Blocks.{block_limit}
use Rattle.script_lines.specs.declared.line.LineFault.{LineFault}
use Rattle.script_lines.specs.declared.line.LineFault.TheVariants as faults
use Rattle.script_lines.specs.declared.deed.Deed.{Deed}
use Rattle.script_lines.specs.declared.deed.Deed.TheVariants as deeds
use Rattle.script_lines.specs.Scripts.{Stage, Line, Skipped, Bad, Heads, Asks, Opens, Adds, Closes, plain_line, asked, said}

-- At each stage, where the line is no head: the caller that speaks in it, and the text of what it says; None where the line is skipped.
abbrev pub IsAsk : Result (Option (ℕ × Bor (List ℕ))) LineFault → List ℕ → Type 0
IsAsk (Ok None) text = (stage : Stage) → plain_line stage text ≡ Skipped
IsAsk (Ok (Some ask)) text = (stage : Stage) → plain_line stage text ≡ said stage ask.0 (words_of ask.1.now)
IsAsk (Err faults.Bad) text = (stage : Stage) → plain_line stage text ≡ Bad
IsAsk (Err faults.OutOfMemory) text = ⊥

-- The call that a text asks for.
abbrev pub IsCallOf : Result Call LineFault → Option Task → Type 0
IsCallOf (Ok call) task = task ≡ Some (task_of call)
IsCallOf (Err faults.Bad) task = task ≡ None
IsCallOf (Err faults.OutOfMemory) task = IsSome task

-- why a line is not served whose call is not read
abbrev pub fault_of : ReadFault → LineFault
fault_of reads.BadCall = faults.Bad
fault_of reads.OutOfMemory = faults.OutOfMemory

-- nothing is done at such a line but what it changes of the stage
abbrev pub is_quiet : Line → Bool
is_quiet Skipped = true
is_quiet Bad = false
is_quiet Heads = false
is_quiet (Asks caller task) = false
is_quiet (Opens caller) = true
is_quiet (Adds task) = true
is_quiet (Closes caller tasks) = false

-- the line by which a caller asks for a job
abbrev pub job_line : ℕ → Job → Line
job_line caller (jobs.One call) = Asks caller (task_of call)
job_line caller (jobs.Many calls) = Closes caller (map task_of calls.items)

-- what is to be done at a line; a call is not read yet
abbrev pub IsDeed : Result Deed LineFault → Line → Type 0
IsDeed (Ok deeds.Nothing) line = IsTrue (is_quiet line)
IsDeed (Ok deeds.Renews) line = line ≡ Heads
IsDeed (Ok (deeds.Asks edition caller text)) line = line ≡ asked caller (task_in edition (words_of text.now))
IsDeed (Ok (deeds.Closes caller calls)) line = line ≡ Closes caller (map task_of calls.items)
IsDeed (Err faults.Bad) line = line ≡ Bad
IsDeed (Err faults.OutOfMemory) line = Unit {0}

-- there may be such a caller, and such a block
abbrev pub IsLawfulDeed : Deed → Type 0
IsLawfulDeed deeds.Nothing = Unit {0}
IsLawfulDeed deeds.Renews = Unit {0}
IsLawfulDeed (deeds.Asks edition caller text) = caller < caller_limit
IsLawfulDeed (deeds.Closes caller calls) = (caller < caller_limit) × (1 ≤ length calls.items) × (length calls.items ≤ block_limit)

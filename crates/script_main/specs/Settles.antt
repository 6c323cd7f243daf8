-- Settled runs: what worker threads come to that share one machine, a script for each worker.
use Rattle.std.specs.Prelude.{◌≡◌, ℕ, zero, suc, ◌==◌, ◌<◌, Bool, List, [], ◌∷◌, ◌++◌, length, map, slice_index_or, Vec, if◌then◌else◌}
use Rattle.std.specs.Global.{Global}
use Rattle.vector_memory.specs.declared.bounds.Bounds.{Bounds}
use Rattle.vector_memory.specs.States.{State, empty}
use Rattle.cvl_text.specs.declared.call.Call.{Call}
use Rattle.call_history.specs.declared.request.Job.{Job}
use Rattle.cvl_text.specs.declared.reply.Reply.{Reply}
use Rattle.cvl_text.specs.Tasks.{task_of}
use Rattle.cvl_text.specs.Answers.{Answer}
use Rattle.cvl_calls.specs.Steps.{stepped}
use Rattle.call_history.specs.declared.entry.Entry.{Entry}
use Rattle.call_history.specs.Callers.{calls_by, entries_by}
use Rattle.call_history.specs.Fits.{calls_of}
use Rattle.call_history.specs.Books.{BookState}
use Rattle.script_lines.specs.declared.fault.RunFault.{RunFault}
use Rattle.script_lines.specs.declared.fault.RunFault.TheVariants as stops
use Rattle.script_main.specs.Gates.{MayStopFirst}
use Rattle.script_main.specs.Reports.{answers_of}

-- the replies along a history to the calls of one caller, in order, from this memory
abbrev pub replies_by : ℕ → State → List Entry → List Answer
replies_by k m [] = []
replies_by k m (e ∷ es) =
    if e.caller == k then (stepped m (task_of e.call)).answer ∷ replies_by k (stepped m (task_of e.call)).memory es
    else replies_by k (stepped m (task_of e.call)).memory es

-- the calls of some jobs, in order
abbrev pub calls_in : List Job → List Call
calls_in [] = []
calls_in (job ∷ jobs) = calls_of job ++ calls_in jobs

-- n - 1, n - 2 and so on down to 0
abbrev pub down_from : ℕ → List ℕ
down_from zero = []
down_from (suc n) = n ∷ down_from n

-- how many more entries of its block follow each call of some jobs, where each job is whole
abbrev pub rests_in : List Job → List ℕ
rests_in [] = []
rests_in (job ∷ jobs) = down_from (length (calls_of job)) ++ rests_in jobs

-- how many more entries of its block follow each entry of one caller
abbrev pub rests_by : ℕ → List Entry → List ℕ
rests_by k history = map (λ e. e.rest) (entries_by k history)

-- A settled run of these scripts, one for each worker: the history of the book has of each worker exactly the calls of its jobs, in
-- order, each block of them whole, and no other calls; and the replies to each worker are those at its own entries.
pub record IsSettled (bounds : Bounds) (scripts : List (List Job)) (replies : Vec (Vec Reply Global) Global) (book : BookState) : Type 0 where
  pub bounds_is : book.bounds ≡ bounds
  pub calls : (k : ℕ) → calls_by k book.history ≡ calls_in (slice_index_or scripts k [])
  pub blocks : (k : ℕ) → rests_by k book.history ≡ rests_in (slice_index_or scripts k [])
  pub workers : length (answers_of replies) ≡ length scripts
  pub replies_are : (k : ℕ) → slice_index_or (answers_of replies) k [] ≡ replies_by k (empty bounds) book.history

-- Why these scripts were not run to their end: the gate stopped a worker and none below it, memory was wanted, or the machine
-- of several workers was not closed.
abbrev pub IsThreadsFault : (ℕ → ℕ → Bool → Type 0) → List (List Job) → RunFault → Type 0
IsThreadsFault may_answer scripts (stops.Stopped worker) = MayStopFirst may_answer scripts worker
IsThreadsFault may_answer scripts stops.OutOfMemory = Unit {0}
IsThreadsFault may_answer scripts stops.Unfinished = 1 < length scripts
IsThreadsFault may_answer scripts (stops.BadLine number) = ⊥
IsThreadsFault may_answer scripts stops.Read = ⊥
IsThreadsFault may_answer scripts stops.Write = ⊥

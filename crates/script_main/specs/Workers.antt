-- Worker threads that share one machine: what each of them comes to, and how their callers meet.
use Rattle.std.specs.Prelude.{◌≡◌, ◌⊎◌, ℕ, ◌+◌, ◌<◌, ◌≤◌, Bool, false, List, [], ◌∷◌, ◌++◌, length, map, Result, Ok, Err, Vec}
use Rattle.std.specs.Global.{Global}
use Rattle.std.specs.List.{AllByRecursion, AllZip, sum_by}
use Rattle.vector_memory.specs.declared.bounds.Bounds.{Bounds}
use Rattle.vector_memory.specs.States.{empty}
use Rattle.call_history.specs.declared.request.Job.{Job}
use Rattle.cvl_text.specs.declared.reply.Reply.{Reply}
use Rattle.cvl_text.specs.Answers.{Answer, answer_of}
use Rattle.call_history.specs.declared.entry.Entry.{Entry}
use Rattle.call_history.specs.Fits.{IsLawfulJob}
use Rattle.call_history.specs.History.{Begins}
use Rattle.call_history.specs.Callers.{calls_by}
use Rattle.call_history.specs.Books.{BookState}
use Rattle.combiner.specs.Standing.{Machine, Standing, IsIdle, IsNewAt, callers_of}
use Rattle.combiner.specs.Says.{seeing}
use Rattle.script_lines.specs.declared.fault.RunFault.{RunFault}
use Rattle.script_lines.specs.declared.fault.RunFault.TheVariants as stops
use Rattle.script_main.specs.declared.work.Worked.{Worked}
use Rattle.script_main.specs.declared.threads.Worker.{Worker}
use Rattle.script_main.specs.declared.threads.Started.{Started}
use Rattle.script_main.specs.declared.threads.Started.TheVariants.{Runs, Refused}
use Rattle.script_main.specs.Gates.{MayPass, MayStop}
use Rattle.script_main.specs.Settles.{calls_in, replies_by, rests_by, rests_in}

-- The caller of this number is idle. Its answered calls are those of these jobs, they are all its calls in what it has seen, where each
-- block is whole, and these are the replies to them there.
pub record HasDone (m : Machine) (bounds : Bounds) (k : ℕ) (jobs : List Job) (c : Standing) (answers : List Answer) : Type 0 where
  pub machine_is : c.machine ≡ m
  pub bounds_is : c.bounds ≡ bounds
  pub number_is : c.number ≡ k
  pub idle : IsIdle c
  pub record_is : c.own ≡ calls_in jobs
  pub calls_are : calls_by k c.seen ≡ calls_in jobs
  pub rests_are : rests_by k c.seen ≡ rests_in jobs
  pub replies_are : answers ≡ replies_by k (empty bounds) c.seen

-- whatever the caller had done, it has done this job behind that, with these replies
abbrev pub TakesTurn : Standing → Job → Standing → List Answer → Type 0
TakesTurn c job d replies = (jobs : List Job) (answers : List Answer) → HasDone c.machine c.bounds c.number jobs c answers
    → HasDone c.machine c.bounds c.number (jobs ++ job ∷ []) d (answers ++ replies)

-- The caller went on by this job, and the replies to it stand behind those that it had.
abbrev pub GoesOn : Job → Standing → List Reply → Standing → List Reply → Type 0
GoesOn job c told d told' = (more : List Reply) × (told' ≡ told ++ more) × TakesTurn c job d (map answer_of more)

-- why worker k does not take a turn: its gate stopped it, or memory was wanted
abbrev pub IsTurnFault : (ℕ → ℕ → Bool → Type 0) → ℕ → ℕ → RunFault → Type 0
IsTurnFault may_answer k turn (stops.Stopped worker) = (worker ≡ k) × may_answer k turn false
IsTurnFault may_answer k turn stops.OutOfMemory = Unit {0}
IsTurnFault may_answer k turn (stops.BadLine number) = ⊥
IsTurnFault may_answer k turn stops.Read = ⊥
IsTurnFault may_answer k turn stops.Write = ⊥
IsTurnFault may_answer k turn stops.Unfinished = ⊥

-- why worker k ends before its n jobs are done: its gate stopped it, or memory was wanted
abbrev pub IsWorkFault : (ℕ → ℕ → Bool → Type 0) → ℕ → ℕ → RunFault → Type 0
IsWorkFault may_answer k n (stops.Stopped worker) = (worker ≡ k) × MayStop may_answer k n
IsWorkFault may_answer k n stops.OutOfMemory = Unit {0}
IsWorkFault may_answer k n (stops.BadLine number) = ⊥
IsWorkFault may_answer k n stops.Read = ⊥
IsWorkFault may_answer k n stops.Write = ⊥
IsWorkFault may_answer k n stops.Unfinished = ⊥

-- where worker k ended with no fault, it has done its script
abbrev pub IsEnd : Machine → Bounds → ℕ → List Job → Result Worked RunFault → Type 0
IsEnd m bounds k script (Ok worked) = HasDone m bounds k script worked.caller (map answer_of worked.replies.items)
IsEnd m bounds k script (Err fault) = Unit {0}

-- where worker k ended in its n jobs, by what its gate may answer
abbrev pub IsGated : (ℕ → ℕ → Bool → Type 0) → ℕ → ℕ → Result Worked RunFault → Type 0
IsGated may_answer k n (Ok worked) = MayPass may_answer k n
IsGated may_answer k n (Err fault) = IsWorkFault may_answer k n fault

-- how worker k ends
pub record Ends (may_answer : ℕ → ℕ → Bool → Type 0) (m : Machine) (bounds : Bounds) (k : ℕ) (script : List Job) (end : Result Worked RunFault) : Type 0 where
  pub done : IsEnd m bounds k script end
  pub gated : IsGated may_answer k (length script) end

-- a worker whose caller has done nothing yet, and whose blocks have as many calls as they may
pub record IsReady (m : Machine) (bounds : Bounds) (worker : Worker) : Type 0 where
  pub new : IsNewAt m bounds worker.caller
  pub lawful : AllByRecursion IsLawfulJob worker.script.items

-- how the worker that is to do this ends
abbrev pub IsEndOf : (ℕ → ℕ → Bool → Type 0) → Machine → Bounds → Worker → Result Worked RunFault → Type 0
IsEndOf may_answer m bounds worker end = Ends may_answer m bounds worker.caller.number worker.script.items end

-- the thread of a worker, if it could be made, does what the worker is to do
abbrev pub IsStarted : {G : Type 0} → G → Machine → Bounds → Worker → Started G → Type 0
IsStarted gate m bounds worker (Runs handle) =
    (handle.promise.gate.value ≡ gate) × (handle.promise.machine.value ≡ m) × (handle.promise.bounds ≡ bounds)
    × (handle.promise.number ≡ worker.caller.number) × (handle.promise.script.value.items ≡ worker.script.items)
IsStarted gate m bounds worker Refused = Unit {0}

-- how a thread ended; one that could not be made is a want of memory
abbrev pub IsJoined : {G : Type 0} → (G → ℕ → ℕ → Bool → Type 0) → Started G → Result Worked RunFault → Type 0
IsJoined may_answer (Runs handle) end =
    Ends (may_answer handle.promise.gate.value) handle.promise.machine.value handle.promise.bounds handle.promise.number handle.promise.script.value.items end
IsJoined may_answer Refused end = end ≡ Err stops.OutOfMemory

-- The lists are of one length, and the fact holds of the members at each place. Places are counted from k on.
abbrev pub EachAt : {A B : Type 0} → (ℕ → A → B → Type 0) → ℕ → List A → List B → Type 0
EachAt fact k [] [] = Unit {0}
EachAt fact k [] (y ∷ ys) = ⊥
EachAt fact k (x ∷ xs) [] = ⊥
EachAt fact k (x ∷ xs) (y ∷ ys) = fact k x y × EachAt fact (k + 1) xs ys

-- how the workers with these scripts end
abbrev pub AreEnds : Machine → Bounds → List (List Job) → List (Result Worked RunFault) → Type 0
AreEnds m bounds scripts ends = EachAt (IsEnd m bounds) 0 scripts ends

abbrev pub AreGated : (ℕ → ℕ → Bool → Type 0) → List (List Job) → List (Result Worked RunFault) → Type 0
AreGated may_answer scripts ends = EachAt (λ k script end. IsGated may_answer k (length script) end) 0 scripts ends

-- this is the fault of the lowest worker that has one
pub record IsFirstFault (fault : RunFault) (ends : List (Result Worked RunFault)) : Type 0 where
  pub before : List Worked
  pub behind : List (Result Worked RunFault)
  pub ends_are : ends ≡ map Ok before ++ Err fault ∷ behind

-- each of the workers has done its script
abbrev pub AllWorked : List (Result Worked RunFault) → Type 0
AllWorked ends = (workers : List Worked) × (ends ≡ map Ok workers)

-- why the ends of workers on a machine of n callers are not settled
abbrev pub IsSettleFault : ℕ → List (Result Worked RunFault) → RunFault → Type 0
IsSettleFault n ends fault = ((fault ≡ stops.OutOfMemory) ⊎ IsFirstFault fault ends) ⊎ ((fault ≡ stops.Unfinished) × (1 < n))

-- the replies are those of the worker, who has seen a beginning of this history
abbrev pub HasMet : List Entry → Worked → Vec Reply Global → Type 0
HasMet line worked replies = (replies ≡ worked.replies) × Begins worked.caller.seen line

-- These workers have met: the first of them has seen all that any of them has, and these are the replies to each.
pub record HaveMet (workers : List Worked) (closer : Standing) (replies : List (Vec Reply Global)) : Type 0 where
  pub first : Worked
  pub others : List Worked
  pub workers_are : workers ≡ first ∷ others
  pub closer_is : closer ≡ seeing first.caller closer.seen
  pub each : AllZip (HasMet closer.seen) workers replies

-- how many replies there are
abbrev pub reply_count : List (Vec Reply Global) → ℕ
reply_count replies = sum_by (λ own. length own.items) replies

-- This book was closed by this caller: its history begins with what the caller has seen, it has nobody else's calls, and it
-- is as long as there are replies.
pub record ClosesWith (m : Machine) (closer : Standing) (replies : List (Vec Reply Global)) (book : BookState) : Type 0 where
  pub bounds_is : book.bounds ≡ closer.bounds
  pub begins : Begins closer.seen book.history
  pub no_strangers : (k : ℕ) → callers_of m ≤ k → calls_by k book.history ≡ []
  pub counted : reply_count replies ≡ length book.history

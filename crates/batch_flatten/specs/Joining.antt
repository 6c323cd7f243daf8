-- The calls of a wave that are to come: what is noted of each for its turn, by its position in the wave.
use Rattle.std.specs.Prelude.{◌≡◌, ◌≢◌, ℕ, ◌<◌, ◌≤◌, Bool, true, All, List, length, map, take, slice_get, slice_index, slice_index_or, Option, Some, None, Result, Ok, Err}
use Rattle.vector_memory.specs.States.{State}
use Rattle.cvl_text.specs.declared.call.Call.{Call}
use Rattle.cvl_text.specs.declared.fault.Fault.{Fault}
use Rattle.cvl_text.specs.declared.fault.Fault.TheVariants.{NoVector}
use Rattle.cvl_text.specs.declared.word.Word.{Word}
use Rattle.cvl_text.specs.declared.word.Word.TheVariants.{SetInts}
use Rattle.cvl_text.specs.Tasks.{task_of}
use Rattle.cvl_calls.specs.declared.judged.Judged.{Judged}
use Rattle.cvl_calls.specs.declared.stop.Stop.{Stop}
use Rattle.cvl_calls.specs.declared.stop.Stop.TheVariants as stops
use Rattle.cvl_calls.specs.Judging.{IsReady, made, word_of}
use Rattle.cvl_calls.specs.Outcomes.{Effect}
use Rattle.cvl_calls.specs.Runs.{runs_kernel}
use Rattle.cvl_calls.specs.Steps.{work_on}
use Rattle.call_history.specs.declared.request.Outcome.{Outcome}
use Rattle.call_history.specs.declared.request.Outcome.TheVariants.{Refused}
use Rattle.call_history.specs.declared.work.Work.{Work}
use Rattle.call_history.specs.Works.{IsWork}
use Rattle.batch_flatten.specs.declared.turn.Turn.{Turn}
use Rattle.batch_flatten.specs.declared.turn.Turn.TheVariants.{Open, Single, Faulty, Joined}

-- the word at a position; one that runs no kernel past the last
abbrev pub word_at : List Word → ℕ → Word
word_at words position = slice_index_or words position SetInts

-- these are the words of the single calls that are back, by their places
abbrev pub AreNoted : List Word → List Outcome → Type 0
AreNoted words outcomes = (place : ℕ) (c : Call) → slice_get outcomes place ≡ Some (Refused c) → word_at words place ≡ (task_of c).word

-- these are the words of the single calls that are back, by their positions in a wave
abbrev pub AreWords : List Word → List Outcome → List ℕ → Type 0
AreWords words outcomes places = (b : ℕ) (c : Call) → b < length places → slice_get outcomes (slice_index places b) ≡ Some (Refused c) → word_at words b ≡ (task_of c).word

-- what a single call that is back makes of the memory; of an answer or a block it is never asked
abbrev pub work_back : State → Option Outcome → Result Effect Fault
work_back m (Some (Refused call)) = work_on m (task_of call)
work_back m other = Err NoVector

-- what the call at a position makes of the memory
abbrev pub work_at : State → List Outcome → List ℕ → ℕ → Result Effect Fault
work_at m outcomes places position = work_back m (slice_get outcomes (slice_index places position))

-- What is noted of a call for its turn is so: its fault, or its work. Only calls that run kernels are joined.
abbrev pub IsPrepared : Bool → Result Effect Fault → Option Turn → Option (Option Work) → Type 0
IsPrepared kernel said (Some Single) slot = kernel ≡ true
IsPrepared kernel said (Some (Faulty fault)) slot = (kernel ≡ true) × (said ≡ Err fault)
IsPrepared kernel said (Some Joined) (Some (Some work)) = (kernel ≡ true) × IsWork work said
IsPrepared kernel said (Some Joined) slot = ⊥
IsPrepared kernel said turn slot = Unit {0}

-- the work at a position, if there is such a position
abbrev pub slot_work : Option (Option Work) → Option Work
slot_work None = None
slot_work (Some work) = work

-- the work with which a call takes its turn
abbrev pub HasWork : Bool → Result Effect Fault → Turn → Option Work → Type 0
HasWork kernel said Open None = Unit {0}
HasWork kernel said Single None = kernel ≡ true
HasWork kernel said (Faulty fault) (Some work) = (kernel ≡ true) × IsWork work said
HasWork kernel said Joined (Some work) = (kernel ≡ true) × IsWork work said
HasWork kernel said turn work = ⊥

-- work that was done before is what the call that is back makes of the memory now, and it ran a kernel
abbrev pub IsReadyWork : State → Option Outcome → Option Work → Type 0
IsReadyWork m (Some (Refused call)) (Some work) = (runs_kernel (task_of call).word ≡ true) × IsWork work (work_on m (task_of call))
IsReadyWork m outcome work = Unit {0}

-- what is noted of the calls from this position on is so, on the memory as it stands
abbrev pub ArePrepared : State → List Outcome → List ℕ → List Word → List Turn → List (Option Work) → ℕ → Type 0
ArePrepared m outcomes places words turns works position = (b : ℕ) → position ≤ b → b < length places → IsPrepared (runs_kernel (word_at words b)) (work_at m outcomes places b) (slice_get turns b) (slice_get works b)

-- what is noted where calls of one word are joined: none is opened, and those of other words stay as they are
pub record ClosesOnly (words : List Word) (word : Word) (old new : List Turn) : Type 0 where
  pub opens : (b : ℕ) → slice_get new b ≡ Some Open → slice_get old b ≡ Some Open
  pub others : (b : ℕ) → word_at words b ≢ word → slice_get new b ≡ slice_get old b

-- calls of one word that runs a kernel are open together, and all of them are to come, from this position on
abbrev pub AreOpenTogether : List Word → List Turn → ℕ → Type 0
AreOpenTogether words turns position = (a b : ℕ) → a < length words → position ≤ b → b < length words → slice_get turns b ≡ Some Open → runs_kernel (word_at words b) ≡ true → word_at words a ≡ word_at words b
    → (position ≤ a) × (slice_get turns a ≡ Some Open)

-- no call of the word is open from one position up to another
abbrev pub IsClosed : List Word → Word → List Turn → ℕ → ℕ → Type 0
IsClosed words word turns from to = (b : ℕ) → from ≤ b → b < to → word_at words b ≡ word → slice_get turns b ≡ Some Open → ⊥

-- the single call, where it is back, has this word
abbrev pub IsOfWord : Word → Outcome → Type 0
IsOfWord word (Refused call) = (task_of call).word ≡ word
IsOfWord word outcome = Unit {0}

-- what the judging of a call returns, where its work is said
abbrev pub IsExamined : Result Effect Fault → Result Judged Stop → Type 0
IsExamined said (Ok judged) = (said ≡ Ok (made judged)) × IsReady judged
IsExamined said (Err (stops.Fault fault)) = said ≡ Err fault
IsExamined said (Err stops.OutOfMemory) = Unit {0}

-- what is noted of a call that was judged
abbrev pub IsNoted : Result Effect Fault → Turn → Type 0
IsNoted said Single = Unit {0}
IsNoted said (Faulty fault) = said ≡ Err fault
IsNoted said turn = ⊥

-- Judged calls of one word, and their positions in the wave: what is to be made of them is the work of the calls there.
pub record IsGroup (m : State) (outcomes : List Outcome) (places : List ℕ) (words : List Word) (word : Word) (positions : List ℕ) (judged : List Judged) : Type 0 where
  pub works : map (λ j. Ok (made j)) judged ≡ map (work_at m outcomes places) (take (length judged) positions)
  pub ready : All IsReady judged
  pub alike : All (λ j. word_of j ≡ word) judged
  pub placed : All (λ b. word_at words b ≡ word) (take (length judged) positions)

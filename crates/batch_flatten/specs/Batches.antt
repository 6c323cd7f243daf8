-- What a batch does, and what one job does.
-- `ServesInOrder` is the promise: what came of each request, and in which order the history grew.
use Rattle.std.specs.Prelude.{◌≡◌, ◌⊎◌, ℕ, Bool, true, false, List, [], ◌∷◌, ◌++◌, length, map, filter}
use Rattle.std.specs.List.{AllByRecursion, flat_map, zip}
use Rattle.vector_memory.specs.declared.bounds.Bounds.{Bounds}
use Rattle.vector_memory.specs.States.{State}
use Rattle.cvl_text.specs.declared.call.Call.{Call}
use Rattle.cvl_text.specs.Answers.{Answer, answer_of}
use Rattle.cvl_text.specs.Tasks.{Task, task_of}
use Rattle.cvl_calls.specs.Runs.{TakesNoMemory}
use Rattle.call_history.specs.declared.entry.Entry.{Entry}
use Rattle.call_history.specs.declared.request.Job.{Job}
use Rattle.call_history.specs.declared.request.Job.TheVariants.{One, Many}
use Rattle.call_history.specs.declared.request.Request.{Request}
use Rattle.call_history.specs.declared.request.Outcome.{Outcome}
use Rattle.call_history.specs.declared.request.Outcome.TheVariants.{Answered, Refused, AnsweredBlock, RefusedBlock}
use Rattle.call_history.specs.Blocks.{Whole, after, block_entries}
use Rattle.call_history.specs.Books.{BookState, memory_of}
use Rattle.call_history.specs.Fits.{Fits, calls_of, handed_back}
use Rattle.call_history.specs.History.{replies_from}
use Rattle.batch_flatten.specs.Waves.{asked, by_waves, waves_of}

abbrev pub is_answered : Outcome → Bool
is_answered (Answered place reply) = true
is_answered (Refused call) = false
is_answered (AnsweredBlock place replies) = true
is_answered (RefusedBlock calls) = false

-- of requests with their outcomes, those that were answered
abbrev pub answered : List (Request × Outcome) → List Request
answered pairs = map (λ p. p.0) (filter (λ p. is_answered p.1) pairs)

-- the call of an entry, with its caller
abbrev pub call_by : Entry → ℕ × Call
call_by e = (e.caller, e.call)

-- the calls that a request asks for, with its caller
abbrev pub calls_asked : Request → List (ℕ × Call)
calls_asked r = map (λ c. (r.caller, c)) (calls_of r.job)

-- The history `new` is `old` with these requests served, and these are their outcomes. The calls that were added are those that
-- were answered, wave after wave, those of a block next to one another. No block is cut.
pub record ServesInOrder (bounds : Bounds) (old : List Entry) (requests : List Request) (new : List Entry) (outcomes : List Outcome) : Type 0 where
  pub fits : Fits bounds old requests new outcomes
  pub paired : length outcomes ≡ length requests
  pub added : List Entry
  pub grown : new ≡ old ++ added
  pub ordered : map call_by added ≡ flat_map calls_asked (answered (by_waves (waves_of (map asked requests)) (zip requests outcomes)))
  pub whole : Whole new

-- calls of a caller ran behind the history, at this place, with these replies
abbrev pub RunsCalls : BookState → BookState → ℕ → List Call → ℕ → List Answer → Type 0
RunsCalls old new k calls place replies =
    (new.bounds ≡ old.bounds) × (new.history ≡ old.history ++ block_entries old.history k calls) × (place ≡ length old.history)
    × (replies ≡ replies_from (memory_of old) (block_entries old.history k calls))

-- the history stayed, and this is the outcome
abbrev pub StaysWith : BookState → BookState → Outcome → Outcome → Type 0
StaysWith old new was outcome = (new.bounds ≡ old.bounds) × (new.history ≡ old.history) × (outcome ≡ was)

-- a job of a caller ran behind the history, or came back
abbrev pub RunsJob : BookState → BookState → ℕ → Job → Outcome → Type 0
RunsJob old new k (One call) (Answered place reply) = RunsCalls old new k (call ∷ []) place (answer_of reply ∷ [])
RunsJob old new k (Many calls) (AnsweredBlock place replies) = RunsCalls old new k calls.items place (map answer_of replies.items)
RunsJob old new k job outcome = StaysWith old new (handed_back job) outcome

-- the memory after these calls one by one, or the memory as it was
abbrev pub StepsOrStays : State → State → List Call → Type 0
StepsOrStays old new calls = (new ≡ old) ⊎ (new ≡ after old calls)

abbrev pub HasAnswer : Outcome → Type 0
HasAnswer (Answered place reply) = Unit {0}
HasAnswer (Refused call) = ⊥
HasAnswer (AnsweredBlock place replies) = Unit {0}
HasAnswer (RefusedBlock calls) = ⊥

-- the job is a single call that takes no memory
abbrev pub NeedsNoMemory : Job → Type 0
NeedsNoMemory (One call) = TakesNoMemory (task_of call).word
NeedsNoMemory (Many calls) = ⊥

-- each request for a single call that takes no memory was answered
abbrev pub AnswersAllSure : List Request → List Outcome → Type 0
AnswersAllSure requests outcomes = AllByRecursion (λ p. NeedsNoMemory p.0.job → HasAnswer p.1) (zip requests outcomes)

-- the calls that are back in an outcome
abbrev pub calls_back : Outcome → List Call
calls_back (Answered place reply) = []
calls_back (Refused call) = call ∷ []
calls_back (AnsweredBlock place replies) = []
calls_back (RefusedBlock calls) = calls.items

-- what they ask for
abbrev pub tasks_back : Outcome → List Task
tasks_back outcome = map task_of (calls_back outcome)

-- A batch under way: some places had their turns, and at the others the calls are back.
use Rattle.std.specs.Prelude.{◌≡◌, ℕ, ◌<◌, false, List, ◌++◌, length, map, take, slice_get, slice_index, Some}
use Rattle.std.specs.List.{flat_map, zip}
use Rattle.std.specs.Option.{option_map}
use Rattle.vector_memory.specs.declared.bounds.Bounds.{Bounds}
use Rattle.vector_memory.specs.States.{State}
use Rattle.cvl_text.specs.declared.call.Call.{Call}
use Rattle.cvl_text.specs.Tasks.{task_of}
use Rattle.cvl_calls.specs.Runs.{TakesNoMemory}
use Rattle.call_history.specs.declared.entry.Entry.{Entry}
use Rattle.call_history.specs.declared.request.Job.{Job}
use Rattle.call_history.specs.declared.request.Job.TheVariants.{One, Many}
use Rattle.call_history.specs.declared.request.Request.{Request}
use Rattle.call_history.specs.declared.request.Outcome.{Outcome}
use Rattle.call_history.specs.declared.request.Outcome.TheVariants.{Answered, Refused, AnsweredBlock, RefusedBlock}
use Rattle.call_history.specs.Blocks.{Whole}
use Rattle.call_history.specs.Books.{BookState}
use Rattle.call_history.specs.Fits.{IsLawfulJob, request, returned, Fits, IsAskedAt}
use Rattle.batch_flatten.specs.Waves.{jobs_clash}
use Rattle.batch_flatten.specs.Places.{IsOutside, at_places}
use Rattle.batch_flatten.specs.Batches.{HasAnswer, RunsJob, StaysWith, StepsOrStays, answered, call_by, calls_asked, calls_back, is_answered, tasks_back}

-- the requests at these places were served, one after the other, and the calls of the others are back
pub record Serving (bounds : Bounds) (old : List Entry) (requests : List Request) (done : List ℕ) (mid : List Entry) (outcomes : List Outcome) : Type 0 where
  pub fits : Fits bounds old requests mid outcomes
  pub paired : length outcomes ≡ length requests
  pub added : List Entry
  pub grown : mid ≡ old ++ added
  pub ordered : map call_by added ≡ flat_map calls_asked (answered (at_places (zip requests outcomes) done))
  pub whole : Whole mid
  pub waiting : (place : ℕ) → IsOutside done place → slice_get outcomes place ≡ option_map returned (slice_get requests place)

-- a job that is back runs, and an answer stays
abbrev pub RunsBack : BookState → BookState → ℕ → Outcome → Outcome → Type 0
RunsBack old new k (Refused call) outcome = RunsJob old new k (One call) outcome
RunsBack old new k (RefusedBlock calls) outcome = RunsJob old new k (Many calls) outcome
RunsBack old new k (Answered place reply) outcome = StaysWith old new (Answered place reply) outcome
RunsBack old new k (AnsweredBlock place replies) outcome = StaysWith old new (AnsweredBlock place replies) outcome

-- the memory after the turn of an outcome
abbrev pub TurnsMemory : State → State → Outcome → Type 0
TurnsMemory old new was = StepsOrStays old new (calls_back was)

abbrev pub caller_of : Request → ℕ
caller_of r = r.caller

-- requests of distinct callers, which are the first of these
pub record AreAskedBy (requests : List Request) (callers : List ℕ) : Type 0 where
  pub callers_are : take (length requests) callers ≡ map caller_of requests
  pub each : (i k : ℕ) (job : Job) → slice_get requests i ≡ Some (request k job) → IsAskedAt requests i k job

-- where the jobs of both places are back, no call of the second reads the target of one of the first
abbrev pub DoNotClash : List Outcome → ℕ → ℕ → Type 0
DoNotClash outcomes p q = (first second : Outcome) → slice_get outcomes p ≡ Some first → slice_get outcomes q ≡ Some second → jobs_clash (tasks_back first) (tasks_back second) ≡ false

-- of two places of a wave, the job of the later does not read a target of the earlier one's
abbrev pub AreApart : List ℕ → List Outcome → Type 0
AreApart ws outcomes = (i j : ℕ) → i < j → slice_index ws i ≡ slice_index ws j → DoNotClash outcomes i j

-- a job that is back now was back before
abbrev pub WereBack : List Outcome → List Outcome → Type 0
WereBack old new = (i : ℕ) (o : Outcome) → slice_get new i ≡ Some o → is_answered o ≡ false → slice_get old i ≡ Some o

-- a block that is back has 1 to `block_limit` calls
abbrev pub IsLawfulBack : Outcome → Type 0
IsLawfulBack (Answered place reply) = Unit {0}
IsLawfulBack (Refused call) = Unit {0}
IsLawfulBack (AnsweredBlock place replies) = Unit {0}
IsLawfulBack (RefusedBlock calls) = IsLawfulJob (Many calls)

abbrev pub AreLawful : List Outcome → Type 0
AreLawful outcomes = (place : ℕ) (o : Outcome) → slice_get outcomes place ≡ Some o → IsLawfulBack o

-- each single call at these places that takes no memory is answered: where one is back, its turn is to come
pub record AnswersSure (outcomes : List Outcome) (done : List ℕ) : Type 0 where
  pub waits : (place : ℕ) (c : Call) → slice_get outcomes place ≡ Some (Refused c) → TakesNoMemory (task_of c).word → IsOutside done place

-- a single call that takes no memory and was back is answered
abbrev pub AnswersIfSure : Outcome → Outcome → Type 0
AnswersIfSure (Refused call) new = TakesNoMemory (task_of call).word → HasAnswer new
AnswersIfSure was new = Unit {0}

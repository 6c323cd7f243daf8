-- How a batch of requests extends a history, said caller by caller.
use Rattle.std.specs.Prelude.{◌≡◌, ◌==◌, ℕ, ◌+◌, ◌≤◌, List, [], ◌∷◌, ◌++◌, map, length, take, drop, slice_get, Option, Some, None, if◌then◌else◌}
use Rattle.vector_memory.specs.declared.bounds.Bounds.{Bounds}
use Rattle.cvl_text.specs.declared.call.Call.{Call}
use Rattle.cvl_text.specs.Answers.{Answer, answer_of}
use Rattle.call_history.specs.declared.entry.Entry.{Entry}
use Rattle.call_history.specs.declared.request.Job.{Job}
use Rattle.call_history.specs.declared.request.Job.TheVariants.{One, Many}
use Rattle.call_history.specs.declared.request.Request.{Request}
use Rattle.call_history.specs.declared.request.Outcome.{Outcome}
use Rattle.call_history.specs.declared.request.Outcome.TheVariants.{Answered, Refused, AnsweredBlock, RefusedBlock}
use Rattle.call_history.specs.History.{Begins, replay, replies_from}
use Rattle.call_history.specs.Callers.{calls_by}
use Rattle.call_history.specs.Blocks.{Whole, block_entries, block_limit}

abbrev pub request : ℕ → Job → Request
request caller job = record { caller = caller; job = job }

-- the calls of a job
abbrev pub calls_of : Job → List Call
calls_of (One call) = call ∷ []
calls_of (Many calls) = calls.items

-- a block has 1 to `block_limit` calls
abbrev pub IsLawfulJob : Job → Type 0
IsLawfulJob (One call) = Unit {0}
IsLawfulJob (Many calls) = (1 ≤ length calls.items) × (length calls.items ≤ block_limit)

-- what became of the calls of a request: they stand in the history from a place on, with these replies, or they came back
pub data Fate : Type 0 where
  StandsAt : ℕ → List Answer → Fate
  CameBack : List Call → Fate

abbrev pub fate_of : Outcome → Fate
fate_of (Answered place reply) = StandsAt place (answer_of reply ∷ [])
fate_of (Refused call) = CameBack (call ∷ [])
fate_of (AnsweredBlock place replies) = StandsAt place (map answer_of replies.items)
fate_of (RefusedBlock calls) = CameBack calls.items

-- of a single call an outcome says what became of one call, and of a block what became of a block
abbrev pub IsOfJob : Job → Outcome → Type 0
IsOfJob (One call) (Answered place reply) = Unit {0}
IsOfJob (One call) (Refused back) = Unit {0}
IsOfJob (One call) (AnsweredBlock place replies) = ⊥
IsOfJob (One call) (RefusedBlock back) = ⊥
IsOfJob (Many calls) (Answered place reply) = ⊥
IsOfJob (Many calls) (Refused back) = ⊥
IsOfJob (Many calls) (AnsweredBlock place replies) = Unit {0}
IsOfJob (Many calls) (RefusedBlock back) = Unit {0}

-- what a caller asks for among these requests
abbrev pub request_by : ℕ → List Request → Option Job
request_by k [] = None
request_by k (r ∷ rs) = if r.caller == k then Some r.job else request_by k rs

-- the outcome of a caller, where outcomes stand in the order of the requests
abbrev pub outcome_by : ℕ → List Request → List Outcome → Option Outcome
outcome_by k [] os = None
outcome_by k (r ∷ rs) [] = None
outcome_by k (r ∷ rs) (o ∷ os) = if r.caller == k then Some o else outcome_by k rs os

-- the outcome of a job of which nothing has become yet: its calls back
abbrev pub handed_back : Job → Outcome
handed_back (One call) = Refused call
handed_back (Many calls) = RefusedBlock calls

abbrev pub returned : Request → Outcome
returned r = handed_back r.job

-- the place i has a request of caller k for this job, and no place before it has one of k
pub record IsAskedAt (requests : List Request) (i k : ℕ) (job : Job) : Type 0 where
  pub there : slice_get requests i ≡ Some (request k job)
  pub first : request_by k (take i requests) ≡ None

-- so many entries of a history, from a place on
abbrev pub block_at : List Entry → ℕ → ℕ → List Entry
block_at history place count = take count (drop place history)

-- The calls stand next to one another in what was added to the history, at this place, with these replies. No block is cut in the
-- history up to and with them.
pub record Serves (bounds : Bounds) (old new : List Entry) (caller : ℕ) (calls : List Call) (place : ℕ) (replies : List Answer) : Type 0 where
  pub added : length old ≤ place
  pub within : place + length calls ≤ length new
  pub entries_are : block_at new place (length calls) ≡ block_entries (take place new) caller calls
  pub whole : Whole (take (place + length calls) new)
  pub replies_are : replies_from (replay bounds (take place new)) (block_entries (take place new) caller calls) ≡ replies

abbrev pub FitsFate : Bounds → List Entry → List Entry → ℕ → List Call → Fate → Type 0
FitsFate bounds old new k calls (StandsAt place replies) = (calls_by k new ≡ calls_by k old ++ calls) × Serves bounds old new k calls place replies
FitsFate bounds old new k calls (CameBack back) = (calls_by k new ≡ calls_by k old) × (back ≡ calls)

-- what a batch did for one caller, who asked for this job, or for none
abbrev pub FitsCaller : Bounds → List Entry → List Entry → ℕ → Option Job → Option Outcome → Type 0
FitsCaller bounds old new k None o = calls_by k new ≡ calls_by k old
FitsCaller bounds old new k (Some job) o = (outcome : Outcome) × (o ≡ Some outcome) × IsOfJob job outcome × FitsFate bounds old new k (calls_of job) (fate_of outcome)

-- the history `new` is `old` with these requests served, and these are their outcomes
pub record Fits (bounds : Bounds) (old : List Entry) (requests : List Request) (new : List Entry) (outcomes : List Outcome) : Type 0 where
  pub grows : Begins old new
  pub each : (k : ℕ) → FitsCaller bounds old new k (request_by k requests) (outcome_by k requests outcomes)

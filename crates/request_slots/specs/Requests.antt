-- The fourth clause of the rule: what lies in a caller's slot at each stage of its word, one definition a stage.
-- `FateHolds` is what an outcome promises, `CallerHolds` the whole clause for one caller.
use Rattle.std.specs.Prelude.{◌≡◌, ℕ, ◌+◌, ◌≤◌, Bool, true, false, List, [], ◌++◌, length, take, Option, Some, None}
use Rattle.vector_memory.specs.declared.bounds.Bounds.{Bounds}
use Rattle.cvl_text.specs.declared.call.Call.{Call}
use Rattle.call_history.specs.declared.entry.Entry.{Entry}
use Rattle.call_history.specs.declared.request.Job.{Job}
use Rattle.call_history.specs.declared.request.Outcome.{Outcome}
use Rattle.call_history.specs.History.{Begins}
use Rattle.call_history.specs.Callers.{calls_by}
use Rattle.call_history.specs.Answers.{Answers}
use Rattle.call_history.specs.Fits.{calls_of, IsLawfulJob, Fate, StandsAt, CameBack, fate_of, IsOfJob}
use Rattle.request_slots.specs.declared.desk.Slot.TheVariants.{Nothing, Asked, Told}
use Rattle.request_slots.specs.Stages.{Stage, unmade, idle, posted, taken, done, code, Station, Home, at_home, is_out}
use Rattle.request_slots.specs.Passes.{Part}

-- What became of the calls that caller k left when it had seen `start`. They stand in the line, and the line up to and with
-- them answers them, or they came back and stand in no history.
abbrev pub FateHolds : Bounds → List Entry → ℕ → List Call → List Call → List Entry → Fate → Type 0
FateHolds bounds line k own calls start (StandsAt place replies) =
    (place + length calls ≤ length line)
    × Answers bounds start own k calls (take (place + length calls) line) replies
    × (calls_by k line ≡ own ++ calls)
FateHolds bounds line k own calls start (CameBack back) = (back ≡ calls) × (calls_by k line ≡ own)

-- the slot is at home and empty, and nothing was ever asked
pub record UnmadeHolds (line : List Entry) (home : Home) (k : ℕ) (own : List Call) : Type 0 where
  pub home_is : home ≡ at_home Nothing
  pub no_calls : calls_by k line ≡ []
  pub own_is : own ≡ []

-- the caller has its slot
pub record IdleHolds (line : List Entry) (home : Home) (k : ℕ) (own : List Call) : Type 0 where
  pub home_is : home ≡ is_out
  pub own_is : calls_by k line ≡ own

-- the job left lies in the slot
pub record PostedHolds (line : List Entry) (home : Home) (k : ℕ) (own : List Call) (job : Job) (start : List Entry) : Type 0 where
  pub home_is : home ≡ at_home (Asked job)
  pub lawful : IsLawfulJob job
  pub begins : Begins start line
  pub own_is : calls_by k line ≡ own

-- before the commit nothing became of the job, and after it the pass has its outcome
abbrev pub ServedHolds : Bounds → List Entry → Option Outcome → ℕ → List Call → Job → List Entry → Bool → Type 0
ServedHolds bounds line outcome k own job start false = calls_by k line ≡ own
ServedHolds bounds line outcome k own job start true =
    (o : Outcome) × (outcome ≡ Some o) × IsOfJob job o × FateHolds bounds line k own (calls_of job) start (fate_of o)

-- the caller that has the desk has the slot
pub record TakenHolds (bounds : Bounds) (line : List Entry) (part : Part) (home : Home) (k : ℕ) (own : List Call) (job : Job) (start : List Entry) : Type 0 where
  pub home_is : home ≡ is_out
  pub begins : Begins start part.before
  pub served : ServedHolds bounds line part.outcome k own job start part.committed

-- the outcome lies in the slot
pub record DoneHolds (bounds : Bounds) (line : List Entry) (home : Home) (k : ℕ) (own : List Call) (job : Job) (start : List Entry) : Type 0 where
  pub outcome : Outcome
  pub home_is : home ≡ at_home (Told outcome)
  pub of_job : IsOfJob job outcome
  pub fate : FateHolds bounds line k own (calls_of job) start (fate_of outcome)

abbrev pub StageHolds : Bounds → List Entry → Part → Home → ℕ → Station → Stage → Type 0
StageHolds bounds line part home k s unmade = UnmadeHolds line home k s.own
StageHolds bounds line part home k s idle = IdleHolds line home k s.own
StageHolds bounds line part home k s posted = PostedHolds line home k s.own s.job s.start
StageHolds bounds line part home k s taken = TakenHolds bounds line part home k s.own s.job s.start
StageHolds bounds line part home k s done = DoneHolds bounds line home k s.own s.job s.start

-- the job that a pass has taken of a caller at this stage
abbrev pub request_at : Stage → Job → Option Job
request_at unmade job = None
request_at idle job = None
request_at posted job = None
request_at taken job = Some job
request_at done job = None

-- of one caller: its word, its slot, and what the pass has of it
pub record CallerHolds (bounds : Bounds) (line : List Entry) (part : Part) (word : ℕ) (home : Home) (k : ℕ) (s : Station) : Type 0 where
  pub word_is : word ≡ code s.stage
  pub request_is : part.request ≡ request_at s.stage s.job
  pub stage_holds : StageHolds bounds line part home k s s.stage

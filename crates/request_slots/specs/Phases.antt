-- The fifth and the sixth clause of the rule: the phase that a seat knows of itself, and when an outcome must wait for it.
-- `PhaseHolds` ties a phase to the stage of the caller's word, and `SettledHolds` the mark that its outcome is there.
use Rattle.std.specs.Prelude.{◌≡◌, ◌≢◌, ◌⊎◌, ℕ, Bool, true, List, ◌++◌, Option, Some}
use Rattle.cvl_text.specs.declared.call.Call.{Call}
use Rattle.call_history.specs.declared.entry.Entry.{Entry}
use Rattle.call_history.specs.declared.request.Job.{Job}
use Rattle.call_history.specs.History.{Begins}
use Rattle.call_history.specs.Callers.{calls_by}
use Rattle.call_history.specs.Fits.{calls_of, IsLawfulJob}
use Rattle.request_slots.specs.declared.known.Pass.{Pass}
use Rattle.request_slots.specs.declared.known.Phase.{Phase}
use Rattle.request_slots.specs.declared.known.Phase.TheVariants.{Idle, Left}
use Rattle.request_slots.specs.Stages.{Stage, idle, posted, done, is_left, Station}
use Rattle.request_slots.specs.Passes.{is_in}

-- while a caller is idle, its own calls in what it has seen are its record
pub record IdleKnows (k : ℕ) (seen : List Entry) (own : List Call) (stage : Stage) : Type 0 where
  pub stage_is : stage ≡ idle
  pub own_is : calls_by k seen ≡ own

-- A caller that left a job knows which, and what it had seen then. What it has seen has none of its calls, or all of them after its
-- record.
pub record LeftKnows (k : ℕ) (seen : List Entry) (own : List Call) (s : Station) (job : Job) (start : List Entry) : Type 0 where
  pub left : is_left s.stage ≡ true
  pub job_is : job ≡ s.job
  pub start_is : start ≡ s.start
  pub begins : Begins start seen
  pub own_is : (calls_by k seen ≡ own) ⊎ (calls_by k seen ≡ own ++ calls_of job)
  pub lawful : IsLawfulJob job

abbrev pub PhaseHolds : ℕ → List Entry → List Call → Station → Phase → Type 0
PhaseHolds k seen own s Idle = IdleKnows k seen own s.stage
PhaseHolds k seen own s (Left job start) = LeftKnows k seen own s job start

-- The outcome of a settled caller lies in its slot. The job of a caller that has tried its own word in its pass is not
-- waiting there, so once the pass is over its outcome lies in the slot too.
pub record SettledHolds (k : ℕ) (settled : Bool) (pass : Option Pass) (stage : Stage) : Type 0 where
  pub done : settled ≡ true → stage ≡ done
  pub tried : (p : Pass) → pass ≡ Some p → is_in p.tried k ≡ true → stage ≢ posted

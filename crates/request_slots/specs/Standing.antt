-- What is known of a caller between two steps, and the words for it. The crates above pass them on.
-- `Standing` is the whole of it; `IsIdle`, `HasLeft` and `Rests` speak of its phase; `newcomers` are the callers of a new machine.
use Rattle.std.specs.Global.{Vec}
use Rattle.std.specs.Prelude.{◌≡◌, ℕ, zero, suc, ◌-◌, Bool, true, false, List, [], ◌∷◌, ◌++◌}
use Rattle.atomic_table.specs.Seated.{TableId}
use Rattle.vector_memory.specs.declared.bounds.Bounds.{Bounds}
use Rattle.cvl_text.specs.declared.call.Call.{Call}
use Rattle.cvl_text.specs.declared.call.Call.TheVariants.{Get}
use Rattle.call_history.specs.declared.entry.Entry.{Entry}
use Rattle.call_history.specs.declared.request.Job.{Job}
use Rattle.call_history.specs.declared.request.Job.TheVariants.{One, Many}
use Rattle.call_history.specs.Callers.{calls_by}
use Rattle.call_history.specs.Blocks.{Whole}
use Rattle.call_history.specs.Fits.{calls_of}
use Rattle.request_slots.specs.declared.known.Phase.{Phase}
use Rattle.request_slots.specs.declared.known.Phase.TheVariants.{Idle, Left}
use Rattle.request_slots.specs.Fronts.{IsOfCallers}

-- the name of one table, for the crates above
abbrev pub Machine : Type 0
Machine = TableId

-- how many callers a machine has: one slot is the desk's
abbrev pub callers_of : Machine → ℕ
callers_of m = m.slots - 1

-- what stands for the name of a machine where nothing is known of any
abbrev pub nowhere : Machine
nowhere = record { words = 0; slots = 0; views_name = 0; atom = 0; block = 0; offset = 0; slot_names = [] }

-- what stands for the bounds of a memory where nothing is known of any
abbrev pub boundless : Bounds
boundless = record { room = 0; limit = 0 }

pub record Standing : Type 0 where
  -- the machine that it calls
  pub machine : Machine
  -- the greatest number of items in the memory of that machine
  pub bounds : Bounds
  -- its number, from 0
  pub number : ℕ
  -- its front: all that it has seen of the history
  pub seen : List Entry
  -- its record: its answered calls, in order
  pub own : List Call
  -- idle, or the job that it left, with its front as it was then
  pub phase : Phase
  -- something became of the job that it left, and waits for it
  pub settled : Bool
  -- it has ever had the book
  pub held : Bool
  -- the callers that it found with the book when it would have served
  pub met : List ℕ
  -- how many requests each of its passes took
  pub passes : List ℕ

abbrev pub left_in : Phase → Bool
left_in Idle = false
left_in (Left job start) = true

-- what stands for a job where there is none
abbrev pub no_job : Job
no_job = One (Get [])

abbrev pub left_job : Phase → Job
left_job Idle = no_job
left_job (Left job start) = job

-- the calls of the job that is left
abbrev pub left_calls : Phase → List Call
left_calls Idle = []
left_calls (Left job start) = calls_of job

abbrev pub left_start : Phase → List Entry
left_start Idle = []
left_start (Left job start) = start

-- no job is left
abbrev pub IsIdle : Standing → Type 0
IsIdle c = c.phase ≡ Idle

-- a job is left
abbrev pub IsLeft : Standing → Type 0
IsLeft c = c.phase ≡ Left (left_job c.phase) (left_start c.phase)

-- this job is left, since the caller had seen this history
abbrev pub HasLeftJob : Standing → Job → List Entry → Type 0
HasLeftJob c job start = c.phase ≡ Left job start

-- a single call
abbrev pub HasLeftCall : Standing → Call → List Entry → Type 0
HasLeftCall c call start = HasLeftJob c (One call) start

-- a block of these calls
abbrev pub HasLeftBlock : Standing → Vec Call → List Entry → Type 0
HasLeftBlock c calls start = HasLeftJob c (Many calls) start

abbrev pub HasLeft : Standing → Type 0
HasLeft c = (job : Job) × (start : List Entry) × HasLeftJob c job start

-- while a caller is idle, its own calls in its front are exactly its record, and it is not settled
abbrev pub Rests : Standing → Type 0
Rests c = IsIdle c → (calls_by c.number c.seen ≡ c.own) × (c.settled ≡ false)

-- What a caller of a table of so many callers may rely on of its front: it rests there, there are no calls but of callers of the
-- table, and no block is cut there.
abbrev pub FrontHolds : ℕ → Standing → Type 0
FrontHolds callers c = Rests c × IsOfCallers callers c.seen × Whole c.seen

-- a caller of a new machine, which has seen nothing
abbrev pub newcomer : Machine → Bounds → ℕ → Standing
newcomer m bounds k = record {
  machine = m;
  bounds = bounds;
  number = k;
  seen = [];
  own = [];
  phase = Idle;
  settled = false;
  held = false;
  met = [];
  passes = [];
}

-- the first n callers of a new machine
abbrev pub newcomers : Machine → Bounds → ℕ → List Standing
newcomers m bounds zero = []
newcomers m bounds (suc n) = newcomers m bounds n ++ newcomer m bounds n ∷ []

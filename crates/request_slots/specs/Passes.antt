-- A pass: what the caller that has the desk does between two steps on the lock.
-- `Lock` says who has the desk, `Part` what a pass has of one caller; the functions on `Pass` are what each step does to it.
use Rattle.std.specs.Prelude.{ℕ, Bool, true, false, ◌||◌, ◌==◌, List, [], ◌∷◌, ◌++◌, Option, Some, None, if◌then◌else◌}
use Rattle.call_history.specs.declared.entry.Entry.{Entry}
use Rattle.call_history.specs.declared.request.Job.{Job}
use Rattle.call_history.specs.declared.request.Request.{Request}
use Rattle.call_history.specs.declared.request.Outcome.{Outcome}
use Rattle.call_history.specs.Fits.{request, request_by, outcome_by}
use Rattle.request_slots.specs.declared.known.Pass.{Pass}

-- who has the desk: nobody, or this caller, whose pass stands here
pub data Lock : Type 0 where
  free : Lock
  held_by : ℕ → Pass → Lock

-- the pass of a caller, if it has the desk
abbrev pub pass_of : Lock → ℕ → Option Pass
pass_of free k = None
pass_of (held_by h p) k = if h == k then Some p else None

-- whether a number is in a list
abbrev pub is_in : List ℕ → ℕ → Bool
is_in [] k = false
is_in (x ∷ xs) k = (x == k) || is_in xs k

-- what a pass has of one caller: the job taken and not yet answered, what became of it in the commit, the history before
-- the commit, and whether it was made
pub record Part : Type 0 where
  pub request : Option Job
  pub outcome : Option Outcome
  pub before : List Entry
  pub committed : Bool

abbrev pub part_of : Lock → ℕ → Part
part_of free k = record { request = None; outcome = None; before = []; committed = false }
part_of (held_by h p) k = record {
  request = request_by k p.taken;
  outcome = outcome_by k p.asked p.outcomes;
  before = p.before;
  committed = p.committed;
}

-- nothing is tried, taken or committed
abbrev pub fresh_pass : List Entry → Pass
fresh_pass line = record { line = line; before = line; tried = []; taken = []; asked = []; outcomes = []; committed = false }

-- the word of caller i was tried
abbrev pub tries : Pass → ℕ → Pass
tries p i = record p { tried = p.tried ++ i ∷ [] }

-- and its request was taken
abbrev pub takes_on : Pass → ℕ → Job → Pass
takes_on p i job = record p { tried = p.tried ++ i ∷ []; taken = p.taken ++ request i job ∷ [] }

-- the history committed is this one, and these are the outcomes of the requests taken
abbrev pub commits : Pass → List Entry → List Outcome → Pass
commits p line outcomes = record p { line = line; asked = p.taken; outcomes = outcomes; committed = true }

-- the requests of all callers but k
abbrev pub all_but : ℕ → List Request → List Request
all_but k [] = []
all_but k (r ∷ rs) = if r.caller == k then all_but k rs else r ∷ all_but k rs

-- the request of caller i was answered
abbrev pub strikes : Pass → ℕ → Pass
strikes p i = record p { taken = all_but i p.taken }

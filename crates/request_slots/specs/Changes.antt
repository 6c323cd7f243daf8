-- What each step and each call does to what is known of a caller. Each function on `Standing` is one event; what it does not name
-- stays as it was.
-- `Meets` is what a caller is told that finds the book taken, and `Collected` what an outcome is to the caller that takes it.
use Rattle.std.specs.Prelude.{◌≡◌, ◌≢◌, ◌⊎◌, ℕ, ◌+◌, ◌<◌, Bool, true, false, ◌&&◌, ◌||◌, List, [], ◌∷◌, ◌++◌, length, nat_lt, if◌then◌else◌}
use Rattle.cvl_text.specs.declared.call.Call.{Call}
use Rattle.call_history.specs.declared.entry.Entry.{Entry}
use Rattle.call_history.specs.declared.request.Job.{Job}
use Rattle.call_history.specs.declared.request.Job.TheVariants.{One}
use Rattle.call_history.specs.History.{Begins}
use Rattle.call_history.specs.Books.{BookState}
use Rattle.call_history.specs.Callers.{calls_by}
use Rattle.call_history.specs.Blocks.{Whole}
use Rattle.call_history.specs.Answers.{Answers}
use Rattle.call_history.specs.Fits.{Fate, StandsAt, CameBack}
use Rattle.request_slots.specs.declared.known.Phase.TheVariants.{Idle, Left}
use Rattle.request_slots.specs.Fronts.{IsOfCallers}
use Rattle.request_slots.specs.Standing.{Standing, callers_of, left_in, left_calls, left_start}

abbrev pub longer : List Entry → List Entry → List Entry
longer xs ys = if nat_lt (length xs) (length ys) then ys else xs

-- the longer of two fronts
abbrev pub longer_seen : Standing → Standing → List Entry
longer_seen c d = longer c.seen d.seen

-- the caller leaves this job
abbrev pub leaving_job : Standing → Job → Standing
leaving_job c job = record c { phase = Left job c.seen }

-- the caller leaves this single call
abbrev pub leaving : Standing → Call → Standing
leaving c call = leaving_job c (One call)

-- what it left came back
abbrev pub resting : Standing → Standing
resting c = record c { phase = Idle; settled = false }

-- the calls that it left were answered, along this history
abbrev pub answering_calls : Standing → List Call → List Entry → Standing
answering_calls c calls history = record c { seen = longer c.seen history; own = c.own ++ calls; phase = Idle; settled = false }

-- what it left was answered, along this history
abbrev pub answering : Standing → Call → List Entry → Standing
answering c call history = answering_calls c (call ∷ []) history

-- its front is this history
abbrev pub seeing : Standing → List Entry → Standing
seeing c line = record c { seen = line }

-- it finds this caller with the book
abbrev pub meeting : Standing → ℕ → Standing
meeting c h = record c { met = c.met ++ h ∷ [] }

-- it has the book
abbrev pub holding : Standing → Standing
holding c = record c { held = true }

-- its pass took so many requests
abbrev pub noting : Standing → ℕ → Standing
noting c requests = record c { passes = c.passes ++ requests ∷ [] }

-- calls of its own stand behind what was, and this is the history then
abbrev pub entering : Standing → List Entry → Standing
entering c line = record c { seen = line; own = calls_by c.number line }

-- it gives the book back with this history, and what it left is settled if its own word was tried
abbrev pub settling : Standing → List Entry → Bool → Standing
settling c line tried = record c { seen = line; settled = c.settled || (tried && left_in c.phase) }

-- it has served so many calls in a pass that tried all callers, and its front is the history then; what it left is settled
abbrev pub serving : Standing → List Entry → ℕ → Standing
serving c line calls = record c { seen = line; settled = c.settled || left_in c.phase; held = true; passes = c.passes ++ calls ∷ [] }

-- this is another one of so many callers
abbrev pub IsOther : ℕ → Standing → ℕ → Type 0
IsOther callers c h = (h ≢ c.number) × (h < callers)

-- another one of so many callers has the book, and nothing changes but that it is noted
abbrev pub Meets : ℕ → Standing → Standing → Type 0
Meets callers c d = (h : ℕ) × IsOther callers c h × (d ≡ meeting c h)

-- this is another caller of the machine
abbrev pub IsAnother : Standing → ℕ → Type 0
IsAnother c h = IsOther (callers_of c.machine) c h

-- another caller of the machine has the book
abbrev pub FindsAnother : Standing → Type 0
FindsAnother c = (h : ℕ) × IsAnother c h

-- and nothing changes but that it is noted
abbrev pub MeetsAnother : Standing → Standing → Type 0
MeetsAnother c d = Meets (callers_of c.machine) c d

-- of the caller's calls the history has its record, or its record and then what it left
abbrev pub HasOwnCalls : Standing → List Entry → Type 0
HasOwnCalls c line = (calls_by c.number line ≡ c.own) ⊎ (calls_by c.number line ≡ c.own ++ left_calls c.phase)

-- A book of a machine of so many callers has the caller's room, and a history that begins with its front, has of its own calls
-- what it should, has no calls but of callers of the machine, and cuts no block.
pub record ShowsLine (callers : ℕ) (c : Standing) (book : BookState) : Type 0 where
  pub bounds : book.bounds ≡ c.bounds
  pub begins : Begins c.seen book.history
  pub own : HasOwnCalls c book.history
  pub no_strangers : IsOfCallers callers book.history
  pub whole : Whole book.history

-- a caller is told what became of the calls that it left
abbrev pub Collected : Standing → Fate → Standing → Type 0
Collected c (StandsAt place replies) d =
    (history : List Entry) × (length history ≡ place + length (left_calls c.phase))
    × Answers c.bounds (left_start c.phase) c.own c.number (left_calls c.phase) history replies
    × Begins c.seen (longer c.seen history) × Begins history (longer c.seen history) × (d ≡ answering_calls c (left_calls c.phase) history)
Collected c (CameBack back) d = (back ≡ left_calls c.phase) × (d ≡ resting c)

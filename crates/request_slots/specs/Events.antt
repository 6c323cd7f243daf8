-- What each step tells the seat that makes it: of the step, the seat before, the number found at the word, and the seat after.
-- The seat is its view and the slots in its hand. The changes of the view are those of `Views` and `Changes`.
use Rattle.std.specs.Global.{Box}
use Rattle.std.specs.Prelude.{◌≡◌, ◌≢◌, ℕ, ◌-◌, false, List, [], ◌∷◌, length}
use Rattle.atomic_table.specs.Table.{Me, Step, rest}
use Rattle.vector_memory.specs.declared.bounds.Bounds.{Bounds}
use Rattle.call_history.specs.declared.entry.Entry.{Entry}
use Rattle.call_history.specs.declared.request.Job.{Job}
use Rattle.call_history.specs.declared.request.Outcome.{Outcome}
use Rattle.call_history.specs.History.{Begins}
use Rattle.call_history.specs.Fits.{IsLawfulJob, fate_of, IsOfJob}
use Rattle.request_slots.specs.declared.desk.Desk.{Desk}
use Rattle.request_slots.specs.declared.desk.Slot.{Slot}
use Rattle.request_slots.specs.declared.desk.Slot.TheVariants.{Nothing, Asked, Told, Kept}
use Rattle.request_slots.specs.declared.known.View.{View}
use Rattle.request_slots.specs.declared.known.View.TheVariants.{Newcomer, Caller}
use Rattle.request_slots.specs.Stages.{own_word, desk_slot, own_slot, idle, posted, done, code}
use Rattle.request_slots.specs.Passes.{takes_on, tries, strikes}
use Rattle.request_slots.specs.Standing.{Machine, Standing, no_job, left_job, newcomer, FrontHolds}
use Rattle.request_slots.specs.Changes.{leaving_job, seeing, Meets, ShowsLine, Collected}
use Rattle.request_slots.specs.Views.{untold, with_standing, known_of, pass_in, locking, passing, committing, entering_line, unlocking, adopting, IsSpare}

-- a seat: its view, and the slots in its hand
abbrev pub Sat : Type 0
Sat = Me Slot View

abbrev pub job_in : Slot → Job
job_in (Asked job) = job
job_in Nothing = no_job
job_in (Told o) = no_job
job_in (Kept d) = no_job

-- the job in the slot that was taken last
abbrev pub job_in_hand : List (ℕ × Slot) → Job
job_in_hand [] = no_job
job_in_hand (x ∷ hand) = job_in x.1

-- a caller posts the job that lies in its hand
abbrev pub Posts : Step Slot → Sat → ℕ → Sat → Type 0
Posts st m found m' =
    (found ≡ code idle) × (m'.0 ≡ Caller (with_standing (known_of m.0) (leaving_job (known_of m.0).standing (job_in_hand m.1)))) × (m'.1 ≡ rest m.1)

-- a caller takes its outcome, or finds none yet
abbrev pub Collects : Step Slot → Sat → ℕ → Sat → Type 0
Collects st m found m' =
    (found ≡ code done → (o : Outcome) × (d : Standing) × (m'.0 ≡ Caller (with_standing (known_of m.0) d))
    × (m'.1 ≡ (own_slot (known_of m.0).standing.number, Told o) ∷ m.1)
    × Collected (known_of m.0).standing (fate_of o) d
    × FrontHolds (st.slots - 1) d
    × IsOfJob (left_job (known_of m.0).standing.phase) o)
    × (found ≢ code done → (m' ≡ m) × ((known_of m.0).standing.settled ≡ false))

-- the desk is taken, or another caller is found to have it
abbrev pub Locks : Step Slot → Sat → ℕ → Sat → Type 0
Locks st m found m' =
    (found ≡ 0 → (d : Box Desk) × IsSpare st.slots d.value × ShowsLine (st.slots - 1) (known_of m.0).standing d.value.book
    × (m'.0 ≡ Caller (locking (known_of m.0) d.value.book.history)) × (m'.1 ≡ (desk_slot, Kept d) ∷ m.1))
    × (found ≢ 0 → (d : Standing) × Meets (st.slots - 1) (known_of m.0).standing d × (m' ≡ (Caller (with_standing (known_of m.0) d), m.1)))

-- the request of the caller of this word is taken, or its word only counts as tried
abbrev pub Takes : Step Slot → Sat → ℕ → Sat → Type 0
Takes st m found m' = (i : ℕ) → st.word ≡ own_word i
    → (found ≡ code posted → (job : Job) × (m'.0 ≡ Caller (passing (known_of m.0) (takes_on (pass_in (known_of m.0)) i job)))
    × (m'.1 ≡ (own_slot i, Asked job) ∷ m.1) × IsLawfulJob job)
    × (found ≢ code posted → m' ≡ (Caller (passing (known_of m.0) (tries (pass_in (known_of m.0)) i)), m.1))

-- a look at a word before a try: where nothing is posted the word counts as tried, else nothing changes
abbrev pub Skips : Step Slot → Sat → ℕ → Sat → Type 0
Skips st m found m' = (i : ℕ) → st.word ≡ own_word i
    → (found ≡ code posted → m' ≡ m)
    × (found ≢ code posted → m' ≡ (Caller (passing (known_of m.0) (tries (pass_in (known_of m.0)) i)), m.1))

-- the line becomes this one, with these outcomes
abbrev pub Commits : List Entry → List Outcome → Step Slot → Sat → ℕ → Sat → Type 0
Commits line outcomes st m found m' = m' ≡ (Caller (committing (known_of m.0) (pass_in (known_of m.0)) line outcomes), m.1)

-- the line becomes this one, with calls of the caller that has the desk alone
abbrev pub Enters : List Entry → Step Slot → Sat → ℕ → Sat → Type 0
Enters line st m found m' =
    (m' ≡ (Caller (entering_line (known_of m.0) line), m.1)) × FrontHolds (st.slots - 1) (entering_line (known_of m.0) line).standing

-- the outcome in the hand goes home
abbrev pub Tells : Step Slot → Sat → ℕ → Sat → Type 0
Tells st m found m' = (i : ℕ) → st.word ≡ own_word i
    → m' ≡ (Caller (passing (known_of m.0) (strikes (pass_in (known_of m.0)) i)), rest m.1)

-- the desk in the hand goes home
abbrev pub Unlocks : Step Slot → Sat → ℕ → Sat → Type 0
Unlocks st m found m' =
    (m' ≡ (Caller (unlocking (known_of m.0) (pass_in (known_of m.0))), rest m.1))
    × FrontHolds (st.slots - 1) (unlocking (known_of m.0) (pass_in (known_of m.0))).standing

-- the line so far is seen, and its length found
abbrev pub Looks : Step Slot → Sat → ℕ → Sat → Type 0
Looks st m found m' =
    (line : List Entry) × (found ≡ length line) × Begins (known_of m.0).standing.seen line
    × (m' ≡ (Caller (with_standing (known_of m.0) (seeing (known_of m.0).standing line)), m.1))
    × FrontHolds (st.slots - 1) (seeing (known_of m.0).standing line)

-- the longer of what was seen and what was told begins with both
abbrev pub Adopts : Step Slot → Sat → ℕ → Sat → Type 0
Adopts st m found m' =
    Begins (known_of m.0).standing.seen (adopting (known_of m.0)).standing.seen × Begins (known_of m.0).told (adopting (known_of m.0)).standing.seen
    × (m' ≡ (Caller (adopting (known_of m.0)), m.1)) × FrontHolds (st.slots - 1) (adopting (known_of m.0)).standing

-- a new caller of this machine is at its place, with its slot
abbrev pub Arrives : Machine → Step Slot → Sat → ℕ → Sat → Type 0
Arrives machine st m found m' = (bounds : Bounds) (k : ℕ) → m.0 ≡ Newcomer bounds k → m' ≡ (Caller (untold (newcomer machine bounds k)), (own_slot k, Nothing) ∷ [])

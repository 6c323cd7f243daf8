-- The rule of the table, which holds between any two steps of any threads.
-- `Lawful` lists its clauses; what a seat knows by them is `CallerKnows`. The words are those of `Stages` and `Passes`, and each
-- clause is defined in the file that is named beside it.
use Rattle.std.specs.Prelude.{◌≡◌, ℕ, ◌+◌, ◌<◌, ◌≤◌, Bool, false, List, length, slice_index, Option}
use mathlib.Core.Option.{some}
use lib.ListN.{get_elem?}
use Rattle.atomic_table.specs.Table.{State}
use Rattle.vector_memory.specs.declared.bounds.Bounds.{Bounds}
use Rattle.call_history.specs.declared.entry.Entry.{Entry}
use Rattle.call_history.specs.History.{Begins}
use Rattle.call_history.specs.Blocks.{Whole}
use Rattle.request_slots.specs.declared.desk.Slot.{Slot}
use Rattle.request_slots.specs.declared.known.Pass.{Pass}
use Rattle.request_slots.specs.declared.known.Known.{Known}
use Rattle.request_slots.specs.declared.known.View.{View}
use Rattle.request_slots.specs.declared.known.View.TheVariants.{Maker, Newcomer, Caller, Bare, Spent}
use Rattle.request_slots.specs.Stages.{lock_word, length_word, own_word, desk_slot, own_slot, unmade, Station}
use Rattle.request_slots.specs.Passes.{Lock, pass_of, part_of}
use Rattle.request_slots.specs.Fronts.{FrontsBegin, LineHolds}
use Rattle.request_slots.specs.Locks.{LockHolds, HolderSits, SitApart, MadeSit}
use Rattle.request_slots.specs.Requests.{CallerHolds}
use Rattle.request_slots.specs.Phases.{PhaseHolds, SettledHolds}
use Rattle.request_slots.specs.Notes.{NotesHold}
use Rattle.request_slots.specs.Standing.{left_start}

-- what holds of the seat of one caller, which stands at the station `mine` and has the view number `seat`
pub record CallerKnows (bounds : Bounds) (n made : ℕ) (line : List Entry) (pass : Option Pass) (mine : Station) (has_held : ℕ → Bool) (seat : ℕ) (c : Known) : Type 0 where
  -- the rule and the seat speak of one caller and one history
  pub number_made : c.standing.number < made
  pub inside : c.standing.number < n
  pub seat_is : mine.seat ≡ seat
  pub bounds_is : c.standing.bounds ≡ bounds
  pub own_is : c.standing.own ≡ mine.own
  -- 1. What it has seen begins the line, and cuts no block (Fronts).
  pub fronts : FrontsBegin line c.standing.seen c.told (left_start c.standing.phase)
  -- 3. Its pass is the lock's for its number (Passes).
  pub pass_is : c.pass ≡ pass
  -- 5. Its phase is what its word says (Phases).
  pub phase : PhaseHolds c.standing.number c.standing.seen c.standing.own mine c.standing.phase
  -- 6. If it is settled, its outcome waits for it (Phases).
  pub settled : SettledHolds c.standing.number c.standing.settled c.pass mine.stage
  -- 7. Its notes are true (Notes).
  pub notes : NotesHold n c.standing.number c.standing.held mine.held c.standing.met c.pass has_held

-- of the seat of a caller whose slot is still at home
pub record NewcomerKnows (bounds : Bounds) (made : ℕ) (mine : Station) (seat : ℕ) (bounds' : Bounds) (k : ℕ) : Type 0 where
  pub number_made : k < made
  pub seat_is : mine.seat ≡ seat
  pub bounds_is : bounds' ≡ bounds
  pub stage_is : mine.stage ≡ unmade
  pub not_held : mine.held ≡ false

-- of any view, also one that a seat has left behind
abbrev pub Knows : Bounds → ℕ → ℕ → List Entry → Lock → (ℕ → Station) → ℕ → View → Type 0
Knows bounds n made line lock station seat (Maker bounds' m) = (bounds' ≡ bounds) × (m ≡ made) × (seat ≡ 0)
Knows bounds n made line lock station seat (Newcomer bounds' k) = NewcomerKnows bounds made (station k) seat bounds' k
Knows bounds n made line lock station seat (Caller c) =
    CallerKnows bounds n made line (pass_of lock c.standing.number) (station c.standing.number) (λ m. (station m).held) seat c
Knows bounds n made line lock station seat (Bare seen) = Begins seen line × Whole seen
Knows bounds n made line lock station seat Spent = Unit {0}

-- a caller that has no seat yet
pub record IsNotMade (s : Station) : Type 0 where
  pub stage_is : s.stage ≡ unmade
  pub not_held : s.held ≡ false

pub record Lawful (bounds : Bounds) (s : State Slot View) : Type 0 where
  -- How many callers the table has, and how many of them have a seat. The line is the one history, committed so far. The lock
  -- says who has the desk, and a station where each caller stands.
  pub n : ℕ
  pub made : ℕ
  pub line : List Entry
  pub lock : Lock
  pub station : ℕ → Station
  pub wide : length s.words ≡ own_word n
  pub deep : length s.homes ≡ n + 1
  pub not_made : (k : ℕ) → made ≤ k → IsNotMade (station k)
  -- 2. The length word is the length of the line, which cuts no block, and whose entries are of callers of the table (Fronts).
  pub line_holds : LineHolds n (slice_index s.words length_word) line
  -- 3. The lock word names exactly the seat that has the desk, and each caller that was made has one seat (Locks).
  pub lock_holds : LockHolds bounds n line (slice_index s.words lock_word) (get_elem? s.homes desk_slot) lock
  pub holder_sits : HolderSits s.views station lock
  pub sit_apart : SitApart s.views
  pub made_sit : MadeSit s.views station made
  -- 4. In each caller's slot lies what its word says (Requests). Of a slot that is out, the desk's too, the rule says no more: whose
  -- hand it is in, in which order, and that it is empty there stands at the seat (`IsSeated` of Seating), which keeps it by itself.
  pub each_caller : (k : ℕ) → k < n
      → CallerHolds bounds line (part_of lock k) (slice_index s.words (own_word k)) (get_elem? s.homes (own_slot k)) k (station k)
  -- 1, 3, 5, 6, 7. Each seat knows only what is so.
  pub each_seat : (j : ℕ) (v : View) → get_elem? s.views j ≡ some v → Knows bounds n made line lock station j v

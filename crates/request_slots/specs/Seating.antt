-- The seat of a caller: what each `Seat` keeps, and which slots are in its hand, and in which order.
-- `IsSeated` is what is always so of a seat.
use Rattle.std.specs.Prelude.{◌≡◌, ℕ, zero, suc, ◌+◌, ◌*◌, ◌<◌, ◌≤◌, Bool, true, false, not, List, [], ◌∷◌, ◌++◌, length, get_or, Option, Some, None, is_some}
use Rattle.atomic_table.specs.Table.{turned}
use Rattle.atomic_table.specs.declared.shared.Seat as token
use Rattle.call_history.specs.declared.request.Request.{Request}
use Rattle.call_history.specs.Callers.{caller_limit}
use Rattle.call_history.specs.Fits.{request_by}
use Rattle.request_slots.specs.declared.desk.Slot.{Slot}
use Rattle.request_slots.specs.declared.desk.Slot.TheVariants.{Nothing}
use Rattle.request_slots.specs.declared.known.Pass.{Pass}
use Rattle.request_slots.specs.declared.known.Known.{Known}
use Rattle.request_slots.specs.declared.known.Phase.{Phase}
use Rattle.request_slots.specs.declared.known.Phase.TheVariants.{Idle, Left}
use Rattle.request_slots.specs.declared.known.View.{View}
use Rattle.request_slots.specs.declared.known.View.TheVariants.{Caller}
use Rattle.request_slots.specs.Stages.{desk_slot, own_slot}
use Rattle.request_slots.specs.Passes.{is_in}
use Rattle.request_slots.specs.Standing.{Machine, callers_of, left_in, IsIdle, Rests, FrontHolds}
use Rattle.request_slots.specs.Views.{known_of, pass_in}

abbrev pub Hand : Type 0
Hand = List (ℕ × Slot)

-- an idle caller has its own slot
abbrev pub own_hand : ℕ → Phase → Hand
own_hand k Idle = (own_slot k, Nothing) ∷ []
own_hand k (Left job start) = []

-- the slots of the callers that are marked, the first mark being this caller's, in order
abbrev pub marked_slots : ℕ → List Bool → Hand
marked_slots k [] = []
marked_slots k (true ∷ marks) = (own_slot k, Nothing) ∷ marked_slots (k + 1) marks
marked_slots k (false ∷ marks) = marked_slots (k + 1) marks

-- the caller that has the desk has its slot
abbrev pub desk_hand : Option Pass → Hand
desk_hand None = []
desk_hand (Some p) = (desk_slot, Nothing) ∷ []

-- the slot of the desk, the slots of the callers that are marked, and the caller's own
abbrev pub hand_of : List Bool → Known → Hand
hand_of marks c = desk_hand c.pass ++ (marked_slots 0 marks ++ own_hand c.standing.number c.standing.phase)

-- marked are the callers of these requests
pub record IsMarked (marks : List Bool) (taken : List Request) : Type 0 where
  pub long : length marks ≡ caller_limit
  pub each : (k : ℕ) → k < caller_limit → get_or marks k false ≡ is_some (request_by k taken)

-- no caller has two requests among these
abbrev pub IsDistinct : List Request → Type 0
IsDistinct [] = Unit {0}
IsDistinct (r ∷ rs) = (request_by r.caller rs ≡ None) × IsDistinct rs

-- what was taken was tried
abbrev pub IsOrderly : Pass → Type 0
IsOrderly p = (k : ℕ) → is_in p.tried k ≡ false → request_by k p.taken ≡ None

-- so many slots go behind the others, one after the other
abbrev pub turned_times : ℕ → Hand → Hand
turned_times zero hand = hand
turned_times (suc n) hand = turned (turned_times n hand)

-- what each seat keeps: it is a caller's, of its table and this number, with these slots, and what it has seen is so
pub record IsSeated (seat : token.Seat Slot View) (number : ℕ) (idle : Bool) (marks : List Bool) : Type 0 where
  pub is_caller : seat.me.0 ≡ Caller (known_of seat.me.0)
  pub machine_is : (known_of seat.me.0).standing.machine ≡ seat.table_id
  pub number_is : (known_of seat.me.0).standing.number ≡ number
  pub idle_is : idle ≡ not (left_in (known_of seat.me.0).standing.phase)
  pub hand_is : seat.me.1 ≡ hand_of marks (known_of seat.me.0)
  pub marked : IsMarked marks (pass_in (known_of seat.me.0)).taken
  pub wide : seat.table_id.words ≡ 8 * seat.table_id.slots + 8
  pub inside : number + 1 < seat.table_id.slots
  pub few : seat.table_id.slots ≤ 65
  pub orderly : IsOrderly (pass_in (known_of seat.me.0))
  pub front : FrontHolds (callers_of seat.table_id) (known_of seat.me.0).standing

-- the seat of a caller of this table that has left nothing and does not have the desk
abbrev pub IsNewSeatAt : Machine → Known → Type 0
IsNewSeatAt m c = (c.standing.machine ≡ m) × IsIdle c.standing × (c.pass ≡ None) × Rests c.standing

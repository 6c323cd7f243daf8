-- Where each caller stands, and where each word and slot is: the words that the rule is written in.
-- `code` is what the caller's word says at a stage. A `Station` is what the rule keeps of a caller beside its seat.
use Rattle.std.specs.Prelude.{ℕ, ◌+◌, ◌*◌, Bool, true, false, List}
use mathlib.Core.Option.{some, none}
use mathlib.Core.Option as maybe
use Rattle.cvl_text.specs.declared.call.Call.{Call}
use Rattle.call_history.specs.declared.entry.Entry.{Entry}
use Rattle.call_history.specs.declared.request.Job.{Job}
use Rattle.request_slots.specs.declared.desk.Slot.{Slot}

-- the words of the lock, of the length and of a caller, each eight words behind the one before, and the slots of the desk and of
-- a caller
abbrev pub lock_word : ℕ
lock_word = 0

abbrev pub length_word : ℕ
length_word = 8

abbrev pub own_word : ℕ → ℕ
own_word k = 8 * k + 16

abbrev pub desk_slot : ℕ
desk_slot = 0

abbrev pub own_slot : ℕ → ℕ
own_slot k = k + 1

-- where a caller's request stands
pub data Stage : Type 0 where
  -- the caller has no seat yet, or has not taken its slot
  unmade : Stage
  -- nothing was asked
  idle : Stage
  -- a job lies in its slot
  posted : Stage
  -- a pass took it
  taken : Stage
  -- an outcome lies in its slot
  done : Stage

abbrev pub code : Stage → ℕ
code unmade = 0
code idle = 1
code posted = 2
code taken = 3
code done = 4

-- whether a job was left, and no outcome of it was taken
abbrev pub is_left : Stage → Bool
is_left unmade = false
is_left idle = false
is_left posted = true
is_left taken = true
is_left done = true

pub record Station : Type 0 where
  pub stage : Stage
  -- which of the views is the caller's
  pub seat : ℕ
  -- its answered calls
  pub own : List Call
  -- the job that it left last
  pub job : Job
  -- what it had seen when it left it
  pub start : List Entry
  -- whether it has ever had the desk
  pub held : Bool

-- a slot of the table: at home with a value, or out in the hand of a seat
abbrev pub Home : Type 0
Home = maybe.Option (maybe.Option Slot)

abbrev pub at_home : Slot → Home
at_home x = some (some x)

abbrev pub is_out : Home
is_out = some none

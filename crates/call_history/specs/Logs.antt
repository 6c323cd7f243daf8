-- How a history lies in memory.
use Rattle.std.specs.Prelude.{◌<◌, ℕ, ◌-◌, List, [], Option, Some, None, length, map, min, slice_get, vec_len, vec_capacity}
use Rattle.std.specs.List.{AllByRecursion}
use Rattle.cvl_text.specs.declared.call.Call.{Call}
use Rattle.cvl_text.specs.declared.call.Call.TheVariants as calls
use Rattle.call_history.specs.declared.entry.Entry.{Entry}
use Rattle.call_history.specs.declared.kept.Kept.{Kept}
use Rattle.call_history.specs.declared.kept.Kept.TheVariants as kepts
use Rattle.call_history.specs.declared.log.Row.{Row}
use Rattle.call_history.specs.declared.log.Log.TheInside.{Inside}
use Rattle.call_history.specs.History.{entry_before}
use Rattle.call_history.specs.Kept.{call_of}

-- the entries, and for how many more there is space
pub record LogState : Type 0 where
  pub entries : List Entry
  pub spaces : ℕ

abbrev pub found : Option Call → Call
found (Some call) = call
found None = calls.Get []

-- the call, among those that lie whole if it does
abbrev pub call_in : List Call → Kept → Call
call_in whole (kepts.Whole place) = found (slice_get whole place)
call_in whole other = call_of other

abbrev pub entry_in : List Call → Row → Entry
entry_in whole row = entry_before row.caller row.ticket (call_in whole row.kept) row.rest

-- a call that lies whole is there
abbrev pub IsThere : List Call → Kept → Type 0
IsThere whole (kepts.Whole place) = place < length whole
IsThere whole other = Unit {0}

abbrev pub IsKept : List Call → Row → Type 0
IsKept whole row = IsThere whole row.kept

abbrev pub log_state : Inside → LogState
log_state l = record { entries = map (entry_in l.calls.items) l.rows.items; spaces = min (vec_capacity l.rows - vec_len l.rows) (vec_capacity l.calls - vec_len l.calls) }

abbrev pub AreKept : Inside → Type 0
AreKept l = AllByRecursion (IsKept l.calls.items) l.rows.items

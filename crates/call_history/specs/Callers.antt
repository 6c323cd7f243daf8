-- What a history has of one caller.
use Rattle.std.specs.Prelude.{◌≡◌, ◌==◌, ◌<◌, ℕ, List, length, map, filter, slice_index}
use Rattle.std.specs.List.{range_with_len, AllByRecursion}
use Rattle.cvl_text.specs.declared.call.Call.{Call}
use Rattle.call_history.specs.declared.entry.Entry.{Entry}
use Rattle.call_history.specs.History.{call_of, entry_before}

-- callers are numbered from 0
abbrev pub caller_limit : ℕ
caller_limit = 64

abbrev pub entries_by : ℕ → List Entry → List Entry
entries_by k history = filter (λ e. e.caller == k) history

-- the calls of one caller, in order
abbrev pub calls_by : ℕ → List Entry → List Call
calls_by k history = map call_of (entries_by k history)

abbrev pub ticket_of : Entry → ℕ
ticket_of e = e.ticket

abbrev pub tickets_by : ℕ → List Entry → List ℕ
tickets_by k history = map ticket_of (entries_by k history)

-- the tickets of each caller's entries are 0, 1, 2 and so on, in order
abbrev pub IsTicketed : List Entry → Type 0
IsTicketed history = (k : ℕ) → tickets_by k history ≡ range_with_len 0 (length (entries_by k history))

-- each entry is of a caller that there may be
abbrev pub HasLawfulCallers : List Entry → Type 0
HasLawfulCallers history = AllByRecursion (λ e. e.caller < caller_limit) history

-- the entry by which a caller's call goes behind a history, with so many more of its block to follow
abbrev pub next_before : List Entry → ℕ → Call → ℕ → Entry
next_before history caller call rest = entry_before caller (length (calls_by caller history)) call rest

-- the entry of a single call
abbrev pub next_entry : List Entry → ℕ → Call → Entry
next_entry history caller call = next_before history caller call 0

-- the numbers are the next ticket of each caller: how many calls it has
abbrev pub AreTickets : List ℕ → List Entry → Type 0
AreTickets tickets history = (k : ℕ) → k < caller_limit → slice_index tickets k ≡ length (calls_by k history)

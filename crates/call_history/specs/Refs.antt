-- Entries as a book shows them.
use Rattle.cvl_text.specs.declared.call.Call.{Call}
use Rattle.call_history.specs.declared.entry.Entry.{Entry}
use Rattle.call_history.specs.declared.entry.EntryRef.{EntryRef}
use Rattle.call_history.specs.declared.entry.CallRef.{CallRef}
use Rattle.call_history.specs.declared.entry.CallRef.TheVariants as refs
use Rattle.call_history.specs.History.{entry_before}

-- the call, whether told or lent
abbrev pub call_shown : CallRef → Call
call_shown (refs.Told call) = call
call_shown (refs.Lent call) = call.now

-- the entry
abbrev pub entry_of : EntryRef → Entry
entry_of e = entry_before e.caller e.ticket (call_shown e.call) e.rest

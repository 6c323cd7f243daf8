-- Calls of several callers that run together: the history behind which they stand.
use Rattle.std.specs.Prelude.{ℕ, List, [], ◌∷◌, ◌++◌}
use Rattle.cvl_text.specs.declared.call.Call.{Call}
use Rattle.call_history.specs.declared.entry.Entry.{Entry}
use Rattle.call_history.specs.Callers.{next_entry}

-- the history with these calls behind it, one after another, each of the caller at its place
abbrev pub entered : List Entry → List ℕ → List Call → List Entry
entered history [] calls = history
entered history (k ∷ ks) [] = history
entered history (k ∷ ks) (c ∷ cs) = entered (history ++ next_entry history k c ∷ []) ks cs

-- Histories: the memory that one leads to, and what is replied along it.
use Rattle.std.specs.Prelude.{◌≡◌, ℕ, List, [], ◌∷◌, ◌++◌, Option, None}
use Rattle.std.specs.List.{last_or}
use Rattle.vector_memory.specs.declared.bounds.Bounds.{Bounds}
use Rattle.vector_memory.specs.States.{State, empty}
use Rattle.cvl_text.specs.declared.call.Call.{Call}
use Rattle.cvl_text.specs.Tasks.{task_of}
use Rattle.cvl_text.specs.Answers.{Answer}
use Rattle.cvl_calls.specs.Steps.{stepped}
use Rattle.call_history.specs.declared.entry.Entry.{Entry}

-- an entry that so many entries of its block follow
abbrev pub entry_before : ℕ → ℕ → Call → ℕ → Entry
entry_before caller ticket call rest = record { caller = caller; ticket = ticket; call = call; rest = rest }

-- the entry of a single call
abbrev pub entry : ℕ → ℕ → Call → Entry
entry caller ticket call = entry_before caller ticket call 0

abbrev pub call_of : Entry → Call
call_of e = e.call

-- the memory after the calls of a history, from this one
abbrev pub replay_from : State → List Entry → State
replay_from m [] = m
replay_from m (e ∷ es) = replay_from (stepped m (task_of e.call)).memory es

-- the memory after the calls of a history, from the empty memory of these bounds
abbrev pub replay : Bounds → List Entry → State
replay bounds history = replay_from (empty bounds) history

-- the reply to each call of a history, from this memory
abbrev pub replies_from : State → List Entry → List Answer
replies_from m [] = []
replies_from m (e ∷ es) = (stepped m (task_of e.call)).answer ∷ replies_from (stepped m (task_of e.call)).memory es

-- the reply to the last call of a history, if it has one
abbrev pub last_reply : Bounds → List Entry → Option Answer
last_reply bounds history = last_or None (replies_from (empty bounds) history)

-- the reply to a call behind a history
abbrev pub reply_after : Bounds → List Entry → Call → Answer
reply_after bounds history call = (stepped (replay bounds history) (task_of call)).answer

-- the history `line` begins with `seen`
abbrev pub Begins : List Entry → List Entry → Type 0
Begins seen line = (rest : List Entry) × (line ≡ seen ++ rest)

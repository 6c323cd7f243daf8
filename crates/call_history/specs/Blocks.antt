-- Blocks: calls of one caller that take effect together, whose entries stand next to one another in the history.
use Rattle.std.specs.Prelude.{◌≡◌, ℕ, ◌+◌, ◌<◌, ◌≤◌, ◌^◌, List, [], ◌∷◌, ◌++◌, length, if◌then◌else◌}
use Rattle.scan_kernels.specs.Metering.{Metered, raised}
use Rattle.vector_memory.specs.States.{State}
use Rattle.cvl_text.specs.declared.call.Call.{Call}
use Rattle.cvl_text.specs.Tasks.{task_of}
use Rattle.cvl_text.specs.Answers.{Answer}
use Rattle.cvl_calls.specs.Steps.{runs_on, stepped}
use Rattle.call_history.specs.declared.entry.Entry.{Entry}
use Rattle.call_history.specs.Callers.{next_before}

-- the greatest number of calls of a block
abbrev pub block_limit : ℕ
block_limit = 1024

-- Where more entries of its block follow an entry, the next of them stands behind it at once.
abbrev pub IsFollowed : Entry → List Entry → Type 0
IsFollowed e behind = 0 < e.rest → (next : Entry) × (later : List Entry) × (behind ≡ next ∷ later) × (next.caller ≡ e.caller) × (next.rest + 1 ≡ e.rest)

-- no block of a history is cut
abbrev pub Whole : List Entry → Type 0
Whole [] = Unit {0}
Whole (e ∷ es) = IsFollowed e es × Whole es

-- the entries by which the calls of a block go behind a history
abbrev pub block_entries : List Entry → ℕ → List Call → List Entry
block_entries history caller [] = []
block_entries history caller (c ∷ cs) =
    next_before history caller c (length cs) ∷ block_entries (history ++ next_before history caller c (length cs) ∷ []) caller cs

-- the memory after these calls one by one
abbrev pub after : State → List Call → State
after m [] = m
after m (c ∷ cs) = after (stepped m (task_of c)).memory cs

-- the reply to each of these calls
abbrev pub replies_to : State → List Call → List Answer
replies_to m [] = []
replies_to m (c ∷ cs) = (stepped m (task_of c)).answer ∷ replies_to (stepped m (task_of c)).memory cs

-- a meter once these calls have run, which rises with each that runs a kernel
abbrev pub metered : State → List Call → Metered → Metered
metered m [] meter = meter
metered m (c ∷ cs) meter = metered (stepped m (task_of c)).memory cs (if runs_on m (task_of c) then raised meter else meter)

-- a meter rises by so many runs at most, and where it holds a number of 64 bits it falls by none
pub record RisesBy (most : ℕ) (old new : Metered) : Type 0 where
  pub within : new.runs ≤ old.runs + most
  pub rises : old.runs < 2 ^ 64 → (old.runs ≤ new.runs) × (new.runs < 2 ^ 64)
  pub chunk : new.chunk ≡ old.chunk

-- The first two clauses of the rule: what is seen begins the one history, and the length word is its length.
-- The line is the history committed so far. `Begins`, `Whole` and `calls_by` are words of the crate of histories.
use Rattle.std.specs.Prelude.{◌≡◌, ℕ, ◌≤◌, List, [], length}
use Rattle.call_history.specs.declared.entry.Entry.{Entry}
use Rattle.call_history.specs.History.{Begins}
use Rattle.call_history.specs.Callers.{calls_by}
use Rattle.call_history.specs.Blocks.{Whole}

-- a history has no calls but of the first n callers
abbrev pub IsOfCallers : ℕ → List Entry → Type 0
IsOfCallers n history = (k : ℕ) → n ≤ k → calls_by k history ≡ []

-- What a caller has seen, what it was told by another, and what it had seen when it left its job begin the line. What it has seen and
-- what it was told cut no block.
pub record FrontsBegin (line seen told start : List Entry) : Type 0 where
  pub seen_begins : Begins seen line
  pub told_begins : Begins told line
  pub start_begins : Begins start line
  pub seen_whole : Whole seen
  pub told_whole : Whole told

-- the length word is the length of the line, which cuts no block, and whose entries are all of callers of the table
pub record LineHolds (n word : ℕ) (line : List Entry) : Type 0 where
  pub length_is : word ≡ length line
  pub whole : Whole line
  pub no_strangers : IsOfCallers n line

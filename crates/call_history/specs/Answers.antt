-- A history that answers the calls of a caller.
use Rattle.std.specs.Prelude.{◌≡◌, ℕ, List, ◌++◌}
use Rattle.vector_memory.specs.declared.bounds.Bounds.{Bounds}
use Rattle.cvl_text.specs.declared.call.Call.{Call}
use Rattle.cvl_text.specs.Answers.{Answer}
use Rattle.call_history.specs.declared.entry.Entry.{Entry}
use Rattle.call_history.specs.History.{Begins, replay, replies_from}
use Rattle.call_history.specs.Callers.{calls_by}
use Rattle.call_history.specs.Blocks.{Whole, block_entries}

-- The history begins with all that the caller had seen, and ends with these calls, next to one another, in entries of the caller that
-- have these replies. Of the caller's calls it has those that were answered before, and these. No block is cut in it.
pub record Answers (bounds : Bounds) (seen : List Entry) (own : List Call) (caller : ℕ) (calls : List Call) (history : List Entry) (replies : List Answer) : Type 0 where
  pub before : List Entry
  pub begins : Begins seen history
  pub ends : history ≡ before ++ block_entries before caller calls
  pub whole : Whole history
  pub owns : calls_by caller history ≡ own ++ calls
  pub replies_are : replies_from (replay bounds before) (block_entries before caller calls) ≡ replies

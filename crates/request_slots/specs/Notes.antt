-- The seventh clause of the rule: what a seat has noted of the callers that had the desk.
-- Notes are what a failed try at the lock rests on: that another caller had the desk.
use Rattle.std.specs.Prelude.{◌≡◌, ◌≢◌, ℕ, ◌<◌, Bool, true, List, Option, Some}
use Rattle.request_slots.specs.declared.known.Pass.{Pass}
use Rattle.request_slots.specs.Passes.{is_in}

-- The caller has had the desk where it has noted that, and the caller that has it now has. Each caller that it met at the lock
-- is another caller of the table, which has had the desk.
pub record NotesHold (n k : ℕ) (held had : Bool) (met : List ℕ) (pass : Option Pass) (has_held : ℕ → Bool) : Type 0 where
  pub held_is : held ≡ had
  pub holder_held : (p : Pass) → pass ≡ Some p → held ≡ true
  pub others_held : (m : ℕ) → is_in met m ≡ true → (m ≢ k) × (m < n) × (has_held m ≡ true)

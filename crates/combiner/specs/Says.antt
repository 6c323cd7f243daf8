-- What each call does to what is known of a caller. The functions on `Standing`, which are passed on from the crate below, are one
-- call each; what one does not name stays as it was.
-- `IsAnswered`, `IsBlockAnswered`, `IsAnsweredAtLast`, `IsAnsweredTo` and `IsBlockAnsweredTo` are what an answer says, `FindsAnother` what it says to find the book taken.
use Rattle.std.specs.Global.{Vec}
use Rattle.std.specs.Prelude.{◌≡◌, ℕ, ◌+◌, true, List, [], ◌∷◌, ◌++◌, length, map}
use Rattle.cvl_text.specs.declared.call.Call.{Call}
use Rattle.cvl_text.specs.declared.reply.Reply.{Reply}
use Rattle.cvl_text.specs.Answers.{Answer, answer_of}
use Rattle.call_history.specs.declared.entry.Entry.{Entry}
use Rattle.call_history.specs.History.{Begins}
use Rattle.call_history.specs.Answers.{Answers}
use Rattle.call_history.specs.declared.request.Job.TheVariants.{Many}
pub use Rattle.request_slots.specs.Changes.{leaving, leaving_job, resting, answering, answering_calls, seeing, meeting, serving, longer_seen, IsAnother, FindsAnother, MeetsAnother, HasOwnCalls}
use Rattle.combiner.specs.Standing.{Standing, HasLeftCall, HasLeftBlock}

-- the caller leaves this block
abbrev pub leaving_block : Standing → Vec Call → Standing
leaving_block c calls = leaving_job c (Many calls)

-- The call that was left was answered: there is a history that ends with its entry at this place, which begins with all that
-- had been seen when it was left, has the record and then the call as the caller's calls, and in which this is the reply. The
-- front becomes the longer of itself and this history, and begins with both.
pub record IsAnswered (c d : Standing) (place : ℕ) (reply : Reply) : Type 0 where
  pub call : Call
  pub start : List Entry
  pub history : List Entry
  pub left : HasLeftCall c call start
  pub ends_there : length history ≡ place + 1
  pub answers : Answers c.bounds start c.own c.number (call ∷ []) history (answer_of reply ∷ [])
  pub after : d ≡ answering c call history
  pub later : Begins c.seen d.seen
  pub whole : Begins history d.seen

-- the calls of the block that was left came back, in order: record and front are as before
pub record IsBlockGivenBack (c d : Standing) (back : Vec Call) : Type 0 where
  pub calls : Vec Call
  pub start : List Entry
  pub left : HasLeftBlock c calls start
  pub back_is : back.items ≡ calls.items
  pub after : d ≡ resting c

-- The block that was left was answered: as `IsAnswered`, with its calls next to one another in the history, the first of them at this
-- place and nothing behind the last, and with a reply to each.
pub record IsBlockAnswered (c d : Standing) (place : ℕ) (replies : Vec Reply) : Type 0 where
  pub calls : Vec Call
  pub start : List Entry
  pub history : List Entry
  pub left : HasLeftBlock c calls start
  pub ends_there : length history ≡ place + length calls.items
  pub answers : Answers c.bounds start c.own c.number calls.items history (map answer_of replies.items)
  pub after : d ≡ answering_calls c calls.items history
  pub later : Begins c.seen d.seen
  pub whole : Begins history d.seen

-- the call that was left came back: record and front are as before
abbrev pub IsGivenBack : Standing → Standing → Call → Type 0
IsGivenBack c d call = (start : List Entry) × HasLeftCall c call start × (d ≡ resting c)

-- The call that was left was answered at last: as `IsAnswered`, whatever its caller saw while it waited.
pub record IsAnsweredAtLast (c d : Standing) (place : ℕ) (reply : Reply) : Type 0 where
  pub call : Call
  pub start : List Entry
  pub history : List Entry
  pub left : HasLeftCall c call start
  pub ends_there : length history ≡ place + 1
  pub answers : Answers c.bounds start c.own c.number (call ∷ []) history (answer_of reply ∷ [])
  pub whole : Begins history d.seen
  pub record_is : d.own ≡ c.own ++ call ∷ []

-- The block that was left was answered at last: as `IsBlockAnswered`, whatever its caller saw while it waited.
pub record IsBlockAnsweredAtLast (c d : Standing) (place : ℕ) (replies : Vec Reply) : Type 0 where
  pub calls : Vec Call
  pub start : List Entry
  pub history : List Entry
  pub left : HasLeftBlock c calls start
  pub ends_there : length history ≡ place + length calls.items
  pub answers : Answers c.bounds start c.own c.number calls.items history (map answer_of replies.items)
  pub whole : Begins history d.seen
  pub record_is : d.own ≡ c.own ++ calls.items

-- the call that was left is this one
abbrev pub IsWhatWasLeft : Standing → Call → Type 0
IsWhatWasLeft c call = (start : List Entry) × HasLeftCall c call start

-- the calls of the block that was left are these
abbrev pub IsBlockThatWasLeft : Standing → Vec Call → Type 0
IsBlockThatWasLeft c back = (calls : Vec Call) × (start : List Entry) × HasLeftBlock c calls start × (back.items ≡ calls.items)

-- This call was answered at once: as `IsAnswered`, with front and record as they were before the call.
pub record IsAnsweredTo (call : Call) (c d : Standing) (place : ℕ) (reply : Reply) : Type 0 where
  pub history : List Entry
  pub ends_there : length history ≡ place + 1
  pub answers : Answers c.bounds c.seen c.own c.number (call ∷ []) history (answer_of reply ∷ [])
  pub whole : Begins history d.seen
  pub record_is : d.own ≡ c.own ++ call ∷ []

-- The calls of this block were answered at once: there is a history that ends with the entries of the block, next to one another
-- from this place on, which begins with all that had been seen before, has the record and then these calls as the caller's calls, and in
-- which these are the replies. The front begins with it.
pub record IsBlockAnsweredTo (calls : List Call) (c d : Standing) (place : ℕ) (replies : List Answer) : Type 0 where
  pub history : List Entry
  pub ends_there : length history ≡ place + length calls
  pub answers : Answers c.bounds c.seen c.own c.number calls history replies
  pub whole : Begins history d.seen
  pub record_is : d.own ≡ c.own ++ calls

-- a list that stays, and may get longer
abbrev pub Continues : List ℕ → List ℕ → Type 0
Continues old new = (more : List ℕ) × (new ≡ old ++ more)

-- what was noted stays noted
abbrev pub KeepsNotes : Standing → Standing → Type 0
KeepsNotes c d = (c.held ≡ true → d.held ≡ true) × Continues c.met d.met × Continues c.passes d.passes

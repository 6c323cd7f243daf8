-- A call that runs while its caller has the book.
-- `HasEntered` is the call and its entry, `HasEnteredBlock` the same of a block, `KeepsCall` what a caller knows while others are served, and `IsEnded` what it knows where a call
-- of its own ends. `IsBegun` is what it is told of a call that it begins.
use Rattle.std.specs.Prelude.{◌≡◌, ◌⊎◌, ℕ, ◌+◌, true, List, [], ◌∷◌, length}
use Rattle.cvl_text.specs.declared.call.Call.{Call}
use Rattle.cvl_text.specs.declared.reply.Reply.{Reply}
use Rattle.cvl_text.specs.Answers.{Answer, answer_of}
use Rattle.call_history.specs.declared.entry.Entry.{Entry}
use Rattle.call_history.specs.History.{Begins}
use Rattle.call_history.specs.Answers.{Answers}
use Rattle.request_slots.specs.declared.known.Known.{Known}
use Rattle.request_slots.specs.Views.{entering_line}
use Rattle.combiner.specs.Standing.{Standing, IsIdle}
use Rattle.combiner.specs.declared.answers.Polled.{Polled}
use Rattle.combiner.specs.declared.answers.Polled.TheVariants as poll
use Rattle.combiner.specs.Cases.{is_told, IfAnswered, IfBack, IfBlockAnswered, IfBlockBack}
use Rattle.combiner.specs.Says.{leaving, Continues, KeepsNotes, IsAnswered, IsAnsweredTo, IsGivenBack, IsBlockAnswered, IsBlockGivenBack, MeetsAnother}

-- The call stands last in the history, at this place, and has this reply there. The history is the one committed, and answers the
-- call to its caller.
pub record HasEntered (call : Call) (before now : Known) (place : ℕ) (reply : Reply) : Type 0 where
  pub line : List Entry
  pub now_is : now ≡ entering_line before line
  pub ends_there : length line ≡ place + 1
  pub answers : Answers before.standing.bounds before.standing.seen before.standing.own before.standing.number (call ∷ []) line (answer_of reply ∷ [])

-- The calls of a block stand last in the history, from this place on, and have these replies there. The history is the one
-- committed, and answers the block to its caller.
pub record HasEnteredBlock (calls : List Call) (before now : Known) (place : ℕ) (replies : List Answer) : Type 0 where
  pub line : List Entry
  pub now_is : now ≡ entering_line before line
  pub ends_there : length line ≡ place + length calls
  pub answers : Answers before.standing.bounds before.standing.seen before.standing.own before.standing.number calls line replies

-- what a caller left and what was answered to it stay, and it sees no less
pub record KeepsCall (c d : Standing) : Type 0 where
  pub number : d.number ≡ c.number
  pub bounds : d.bounds ≡ c.bounds
  pub phase : d.phase ≡ c.phase
  pub own : d.own ≡ c.own
  pub later : Begins c.seen d.seen
  pub notes : KeepsNotes c d

-- What became of what a caller left, told at last: as `poll` tells it of a caller that has waited.
pub record IsToldAtLast (c d : Standing) (says : Polled) : Type 0 where
  pub waited : Standing
  pub keeps : KeepsCall c waited
  pub told : is_told says ≡ true
  pub answered : IfAnswered says (IsAnswered waited d)
  pub back : IfBack says (IsGivenBack waited d)
  pub block_answered : IfBlockAnswered says (IsBlockAnswered waited d)
  pub block_back : IfBlockBack says (IsBlockGivenBack waited d)

-- where a call ends its caller is idle, and sees no less
pub record IsEnded (c d : Standing) : Type 0 where
  pub number : d.number ≡ c.number
  pub bounds : d.bounds ≡ c.bounds
  pub idle : IsIdle d
  pub later : Begins c.seen d.seen
  pub notes : KeepsNotes c d

-- It did not try for the book, or it did and met another caller that had it.
abbrev pub MayHaveMet : Standing → Standing → Type 0
MayHaveMet c d = (d ≡ c) ⊎ MeetsAnother c d

-- A call was begun: it was answered at once; it came back, with the record as before; or it is left.
abbrev pub IsBegun : Call → Standing → Standing → Polled → Type 0
IsBegun call c d poll.Idle = ⊥
IsBegun call c d poll.Waiting = (tried : Standing) × MayHaveMet c tried × (d ≡ leaving tried call)
IsBegun call c d (poll.Answered place reply) = IsAnsweredTo call c d place reply × IsEnded c d
IsBegun call c d (poll.OutOfMemory back) = (back ≡ call) × (d.own ≡ c.own) × IsEnded c d
IsBegun call c d (poll.AnsweredBlock place replies) = ⊥
IsBegun call c d (poll.OutOfMemoryBlock calls) = ⊥

-- it waited for the book, and found others with it
abbrev pub HasWaited : Standing → Standing → Type 0
HasWaited c d = Continues c.met d.met × (d ≡ record c { met = d.met })

-- it waited for the book, and has it
abbrev pub HasTaken : Standing → Standing → Type 0
HasTaken c d = Continues c.met d.met × (d ≡ record c { met = d.met; held = true })

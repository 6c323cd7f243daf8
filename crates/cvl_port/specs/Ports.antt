-- What the calls of a port do and tell, in the words of the machine.
use Rattle.std.specs.Global.{Vec}
use Rattle.std.specs.Prelude.{◌≡◌, ◌⊎◌, ℕ, false, List, [], ◌∷◌, ◌++◌, map, Option, Some}
use Rattle.cvl_text.specs.declared.call.Call.{Call}
use Rattle.cvl_text.specs.declared.reply.Reply.{Reply}
use Rattle.cvl_text.specs.Tasks.{Task, task_of}
use Rattle.vector_memory.specs.declared.edition.Edition.TheVariants as edition
use Rattle.vector_memory.specs.States.{bounds_in}
use Rattle.call_history.specs.History.{Begins}
use Rattle.combiner.specs.Standing.{Machine, Standing, IsIdle, HasLeft, callers_of, newcomers}
use Rattle.combiner.specs.Says.{IsAnswered, IsBlockAnswered, IsBlockGivenBack, IsGivenBack, MeetsAnother, serving}
use Rattle.cvl_port.specs.declared.answers.Told.{Told}
use Rattle.cvl_port.specs.declared.answers.Told.TheVariants as told
use Rattle.cvl_port.specs.declared.last.Last.{Last}
use Rattle.cvl_port.specs.declared.last.Last.TheVariants.{Nothing, One, Many}
use Rattle.cvl_port.specs.declared.port.Port.{Port}

-- what is known of the caller of a port
abbrev pub caller_of : Port → Standing
caller_of p = p.caller

-- a port that has asked nothing
pub record IsFresh (p : Port) : Type 0 where
  pub no_reply : p.last ≡ Nothing
  pub none_prepared : p.prepared.items ≡ []

-- but for what its caller knows, the port is as it was
pub record KeepsRest (p q : Port) : Type 0 where
  pub machine_is : q.machine ≡ p.machine
  pub prepared_is : q.prepared ≡ p.prepared
  pub place_is : q.place ≡ p.place
  pub last_is : q.last ≡ p.last

-- these are the ports of a new machine of edition 1, one for each caller, in the order of their numbers
abbrev pub AreNewPorts : ℕ → ℕ → List Port → Type 0
AreNewPorts callers room ports = (m : Machine) × (callers_of m ≡ callers) × (map caller_of ports ≡ newcomers m (bounds_in edition.One room) callers)

-- what became of the call or of the block that was left, and the replies that lie there: the old ones where none came
abbrev pub IsTold : Told → Standing → Standing → ℕ → Last → Type 0
IsTold told.Idle c d place last = IsIdle c × (d ≡ c)
IsTold told.Waiting c d place last = HasLeft c × (d ≡ c) × (c.settled ≡ false)
IsTold told.Answered c d place last = (reply : Reply) × (last ≡ One reply) × IsAnswered c d place reply
IsTold told.AnsweredBlock c d place last = (replies : Vec Reply) × (last ≡ Many replies) × IsBlockAnswered c d place replies
IsTold told.OutOfMemory c d place last = ((call : Call) × IsGivenBack c d call) ⊎ ((calls : Vec Call) × IsBlockGivenBack c d calls)

-- where no reply came the old ones stay
abbrev pub KeepsReplies : Told → Port → Port → Type 0
KeepsReplies told.Answered p q = Unit {0}
KeepsReplies told.AnsweredBlock p q = Unit {0}
KeepsReplies other p q = (q.place ≡ p.place) × (q.last ≡ p.last)

-- the caller served all that were left, or found another with the book
abbrev pub ServesOrMeets : Standing → Standing → Type 0
ServesOrMeets c d = ((calls : ℕ) × (d ≡ serving c d.seen calls) × Begins c.seen d.seen) ⊎ MeetsAnother c d

-- it served if it could, and was then told this
pub record Steps (what : Told) (c d : Standing) (place : ℕ) (last : Last) : Type 0 where
  pub between : Standing
  pub served : ServesOrMeets c between
  pub told : IsTold what between d place last

-- but for the prepared calls the port is as it was
pub record KeepsAllButPrepared (p q : Port) : Type 0 where
  pub machine_is : q.machine ≡ p.machine
  pub caller_is : q.caller ≡ p.caller
  pub place_is : q.place ≡ p.place
  pub last_is : q.last ≡ p.last

-- a call that asks for this is prepared, as the last one
abbrev pub Prepares : Option Task → List Call → List Call → Type 0
Prepares said before after = (call : Call) × (said ≡ Some (task_of call)) × (after ≡ before ++ call ∷ [])

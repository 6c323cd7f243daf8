-- What contracts know of a caller between two calls, and the words for it. Those of the crate below are passed on: `Standing` is the
-- whole of it; `IsIdle`, `HasLeft` and `Rests` speak of its phase; `newcomers` are the callers of a new machine.
use Rattle.std.specs.Global.{Vec}
use Rattle.std.specs.Prelude.{◌≡◌, ℕ, ◌<◌, [], List, None}
use Rattle.vector_memory.specs.declared.bounds.Bounds.{Bounds}
use Rattle.cvl_text.specs.declared.call.Call.{Call}
use Rattle.call_history.specs.Blocks.{Whole}
use Rattle.call_history.specs.declared.entry.Entry.{Entry}
pub use Rattle.request_slots.specs.declared.known.Phase.TheVariants.{Idle, Left}
use Rattle.request_slots.specs.declared.known.Known.{Known}
pub use Rattle.request_slots.specs.Fronts.{IsOfCallers}
pub use Rattle.request_slots.specs.Standing.{Machine, callers_of, Standing, left_calls, IsIdle, HasLeftJob, HasLeftCall, HasLeftBlock, HasLeft, Rests, newcomer, newcomers}

-- what is left is a single call
abbrev pub HasLeftACall : Standing → Type 0
HasLeftACall c = (call : Call) × (start : List Entry) × HasLeftCall c call start

-- what is left is a block
abbrev pub HasLeftABlock : Standing → Type 0
HasLeftABlock c = (calls : Vec Call) × (start : List Entry) × HasLeftBlock c calls start

-- what the seat of a caller shows
abbrev pub standing : Known → Standing
standing c = c.standing

-- an idle caller of this machine, which has seen nothing and has no answered calls
pub record IsNewAt (m : Machine) (bounds : Bounds) (c : Standing) : Type 0 where
  pub machine_is : c.machine ≡ m
  pub bounds_is : c.bounds ≡ bounds
  pub idle : IsIdle c
  pub front_is : c.seen ≡ []
  pub record_is : c.own ≡ []
  pub rests : Rests c

-- what every caller keeps of its seat between two calls
pub record IsResting (c : Known) : Type 0 where
  pub no_desk : c.pass ≡ None
  pub inside : c.standing.number < callers_of c.standing.machine
  pub rests : Rests c.standing
  pub no_strangers : IsOfCallers (callers_of c.standing.machine) c.standing.seen
  pub whole : Whole c.standing.seen

-- a seat that nobody has used
pub record IsNewSeat (c : Known) : Type 0 where
  pub idle : IsIdle c.standing
  pub resting : IsResting c

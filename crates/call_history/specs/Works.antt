-- Work that was done before its turn.
use Rattle.std.specs.Prelude.{◌≡◌, Option, Result, Ok, Err}
use Rattle.vector_memory.specs.declared.name.Name.{Name}
use Rattle.vector_memory.specs.Contents.{content_of}
use Rattle.vector_memory.specs.States.{State}
use Rattle.cvl_text.specs.declared.fault.Fault.{Fault}
use Rattle.cvl_text.specs.Answers.{Answer, FaultOf, answer_of}
use Rattle.cvl_text.specs.Tasks.{Task, target}
use Rattle.cvl_calls.specs.Outcomes.{Effect, Stores, Answers}
use Rattle.cvl_calls.specs.Steps.{Grows, work_on}
use Rattle.call_history.specs.declared.work.Work.{Work}
use Rattle.call_history.specs.declared.work.Work.TheVariants.{Store, Say}
use Rattle.call_history.specs.declared.work.Unserved.{Unserved}
use Rattle.call_history.specs.declared.work.Unserved.TheVariants.{OutOfMemory, Whole}

-- a reply is of a fault, or of a call without target
abbrev pub IsSaid : Answer → Result Effect Fault → Type 0
IsSaid a (Ok (Answers b)) = a ≡ b
IsSaid a (Err fault) = a ≡ FaultOf fault
IsSaid a said = ⊥

-- the work is what the definition says
abbrev pub IsWork : Work → Result Effect Fault → Type 0
IsWork (Store v) said = said ≡ Ok (Stores (content_of v))
IsWork (Say r) said = IsSaid (answer_of r) said

-- what comes back is what was handed in
abbrev pub HandsBack : {W : Type 0} → W → Unserved W → Type 0
HandsBack given OutOfMemory = Unit {0}
HandsBack given (Whole back) = back ≡ given

-- what was made is a value to be stored, for which the memory has room
abbrev pub GrowsBy : State → Option Name → Result Effect Fault → Type 0
GrowsBy m to (Ok effect) = Grows m to effect
GrowsBy m to (Err fault) = ⊥

-- The call stores a value for which the memory has room: the one case in which its turn, for which all else was done before, may want
-- memory.
abbrev pub MayWantMemory : State → Task → Type 0
MayWantMemory m t = GrowsBy m (target t) (work_on m t)

-- what was handed in with a call comes back since a history keeps the call whole
abbrev pub IsWhole : {W : Type 0} → Unserved W → Type 0
IsWhole OutOfMemory = ⊥
IsWhole (Whole back) = Unit {0}

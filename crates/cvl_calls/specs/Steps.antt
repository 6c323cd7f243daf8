-- One step of the machine.
use Rattle.std.specs.Prelude.{◌≡◌, ◌⊎◌, ◌&&◌, Bool, true, false, is_ok, Option, Some, None, Result, Ok, Err}
use Rattle.scan_kernels.specs.Metering.{Metered, raised}
use Rattle.vector_memory.specs.declared.name.Name.{Name}
use Rattle.vector_memory.specs.declared.memory.StoreFault.{StoreFault}
use Rattle.vector_memory.specs.declared.memory.StoreFault.TheVariants as refusals
use Rattle.vector_memory.specs.Contents.{Content}
use Rattle.vector_memory.specs.States.{State, refusal, put, without}
use Rattle.cvl_text.specs.declared.fault.Fault.{Fault}
use Rattle.cvl_text.specs.declared.fault.Fault.TheVariants.{NoRoom, TooManyNames}
use Rattle.cvl_text.specs.Tasks.{Task, target}
use Rattle.cvl_text.specs.Answers.{Answer, Done, FaultOf}
use Rattle.cvl_calls.specs.Outcomes.{Effect, Stores, Frees, Answers, MayRunOut, operands_of}
use Rattle.cvl_calls.specs.Runs.{runs_kernel, tests_index}
use Rattle.cvl_calls.specs.Work.{work}

-- a memory and a reply
pub record Stepped : Type 0 where
  pub memory : State
  pub answer : Answer

-- the reply to a store that is refused
abbrev pub refused : State → Option StoreFault → State → Stepped
refused m None stored = record { memory = stored; answer = Done }
refused m (Some refusals.NoRoom) stored = record { memory = m; answer = FaultOf NoRoom }
refused m (Some refusals.TooManyNames) stored = record { memory = m; answer = FaultOf TooManyNames }
refused m (Some refusals.OutOfMemory) stored = record { memory = m; answer = Done }

-- the reply to a call that stores a value: done, or the fault by which the call or its store is refused
abbrev pub answer_to_store : Option Fault → Answer
answer_to_store None = Done
answer_to_store (Some fault) = FaultOf fault

abbrev pub stored : State → Name → Content → Stepped
stored m n v = refused m (refusal m n v) (put m n v)

-- what an effect makes of the memory
abbrev pub applied : State → Option Name → Effect → Stepped
applied m to (Answers a) = record { memory = m; answer = a }
applied m (Some n) (Stores v) = stored m n v
applied m None (Stores v) = record { memory = m; answer = Done }
applied m (Some n) Frees = record { memory = without m n; answer = Done }
applied m None Frees = record { memory = m; answer = Done }

-- a fault is a reply, and changes nothing
abbrev pub followed : State → Option Name → Result Effect Fault → Stepped
followed m to (Ok effect) = applied m to effect
followed m to (Err fault) = record { memory = m; answer = FaultOf fault }

-- what a call makes of what a memory holds, or its fault of 1 to 8
abbrev pub work_on : State → Task → Result Effect Fault
work_on m t = work m.limit t.word (operands_of m t.arguments)

abbrev pub stepped : State → Task → Stepped
stepped m t = followed m (target t) (work_on m t)

-- whether the step of a call runs a kernel: its word does, and there is no fault of 1 to 8
abbrev pub runs_on : State → Task → Bool
runs_on m t = runs_kernel t.word && is_ok (work_on m t)

-- A meter rises by one with the reply to a call that runs a kernel. Where memory was wanted, the kernel may have run.
abbrev pub CountsStep : {X E : Type 0} → Bool → Result X E → Metered → Metered → Type 0
CountsStep true (Ok x) old new = new ≡ raised old
CountsStep true (Err e) old new = (new ≡ old) ⊎ (new ≡ raised old)
CountsStep false r old new = new ≡ old

-- What the call reads gives no fault, or one behind a test that takes memory: the one case in which a step may run out of it.
abbrev pub MayLackMemory : State → Task → Type 0
MayLackMemory m t = MayRunOut (tests_index t.word) (work_on m t)

-- An effect that stores a value for which the memory has room: the one case in which its doing may run out of memory.
abbrev pub Grows : State → Option Name → Effect → Type 0
Grows m (Some n) (Stores v) = refusal m n v ≡ None
Grows _ _ _ = ⊥

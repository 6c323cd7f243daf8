-- What a call makes of its operands.
use Rattle.std.specs.Prelude.{◌≡◌, ℕ, ℤ, Bool, true, false, IsTrue, List, map, Option, Some, None, Result, Ok, Err, if◌then◌else◌}
use Rattle.vector_memory.specs.Contents.{Content, content_of}
use Rattle.vector_memory.specs.States.{State, FitsLimits, value_at}
use Rattle.cvl_text.specs.declared.fault.Fault.{Fault}
use Rattle.cvl_text.specs.declared.fault.Fault.TheVariants.{BadIndex}
use Rattle.cvl_text.specs.Answers.{Answer, answer_of}
use Rattle.cvl_text.specs.Tasks.{Argument, Vector, Number, Truth, Numbers, Truths}
use Rattle.scan_kernels.specs.Metering.{Metered, CountsRun}
use Rattle.cvl_calls.specs.declared.stop.Stop.{Stop}
use Rattle.cvl_calls.specs.declared.stop.Stop.TheVariants as stops
use Rattle.cvl_calls.specs.declared.product.Product.{Product}
use Rattle.cvl_calls.specs.declared.product.Product.TheVariants as products

-- an argument, with what the memory holds in place of a name
pub data Operand : Type 0 where
  Held : Option Content → Operand
  NumberGiven : ℤ → Operand
  TruthGiven : Bool → Operand
  NumbersGiven : List ℤ → Operand
  TruthsGiven : List Bool → Operand

abbrev pub operand_of : State → Argument → Operand
operand_of m (Vector n) = Held (value_at m n)
operand_of m (Number x) = NumberGiven x
operand_of m (Truth b) = TruthGiven b
operand_of m (Numbers xs) = NumbersGiven xs
operand_of m (Truths bs) = TruthsGiven bs

abbrev pub operands_of : State → List Argument → List Operand
operands_of m arguments = map (operand_of m) arguments

-- what the operands alone decide: a value for the target, that the target goes, or a reply
pub data Effect : Type 0 where
  Stores : Content → Effect
  Frees : Effect
  Answers : Answer → Effect

abbrev pub effect_of : Product → Effect
effect_of (products.Store v) = Stores (content_of v)
effect_of products.Free = Frees
effect_of (products.Reply r) = Answers (answer_of r)

-- a value to store is one that a memory of this limit may hold
abbrev pub IsFittingEffect : ℕ → Effect → Type 0
IsFittingEffect limit (Stores v) = FitsLimits limit v
IsFittingEffect limit Frees = Unit {0}
IsFittingEffect limit (Answers a) = Unit {0}

infixl 10 ◌>>=◌
abbrev pub ◌>>=◌ : {A B : Type 0} → Result A Fault → (A → Result B Fault) → Result B Fault
(Ok x) >>= f = f x
(Err e) >>= f = Err e

abbrev pub check : Bool → Fault → Result (Unit {0}) Fault
check holds fault = if holds then Ok tt else Err fault

-- what was returned, seen by view
abbrev pub viewed : {X Y : Type 0} → (X → Y) → Result X Fault → Result Y Fault
viewed view (Ok x) = Ok (view x)
viewed view (Err f) = Err f

-- Memory may run out where there is no fault, and, if the test of an index takes some, also where the index is bad.
abbrev pub MayRunOut : {Y : Type 0} → Bool → Result Y Fault → Type 0
MayRunOut tested (Ok y) = Unit {0}
MayRunOut tested (Err BadIndex) = IsTrue tested
MayRunOut tested (Err f) = ⊥

-- What a function returned, seen by view, is what the definition says, unless memory ran out.
abbrev pub Fails : {Y : Type 0} → Bool → Stop → Result Y Fault → Type 0
Fails tested stops.OutOfMemory said = MayRunOut tested said
Fails tested (stops.Fault f) said = said ≡ Err f

abbrev pub GivesBy : {X Y : Type 0} → Bool → (X → Y) → Result X Stop → Result Y Fault → Type 0
GivesBy tested view (Ok x) said = said ≡ Ok (view x)
GivesBy tested view (Err e) said = Fails tested e said

abbrev pub Gives : {X Y : Type 0} → (X → Y) → Result X Stop → Result Y Fault → Type 0
Gives view r said = GivesBy false view r said

-- A kernel ran where there is a result and the call runs one.
abbrev pub Counts : {X E : Type 0} → Bool → Result X E → Metered → Metered → Type 0
Counts true r old new = CountsRun r old new
Counts false r old new = new ≡ old

-- the fault, if there is one
abbrev pub fault_in : {Y : Type 0} → Result Y Fault → Option Fault
fault_in (Ok y) = None
fault_in (Err f) = Some f

-- what stopped a function is a fault, and no want of memory
abbrev pub IsFault : Stop → Type 0
IsFault stops.OutOfMemory = ⊥
IsFault (stops.Fault f) = Unit {0}

-- a result or a fault came
abbrev pub IsDecided : {X : Type 0} → Result X Stop → Type 0
IsDecided (Ok x) = Unit {0}
IsDecided (Err e) = IsFault e

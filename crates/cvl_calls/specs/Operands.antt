-- What the operands of a call stand for, or the fault where they do not.
use Rattle.std.specs.Prelude.{ℕ, ℤ, pos, negsuc, Bool, List, Some, None, Result, Ok, Err, nat_le}
use Rattle.vector_memory.specs.Contents.{Content, Ints, Bools, Segs}
use Rattle.cvl_text.specs.declared.fault.Fault.{Fault}
use Rattle.cvl_text.specs.declared.fault.Fault.TheVariants.{NoVector, WrongType, WrongLength, TooLong}
use Rattle.cvl_text.specs.declared.word.Kind.{Kind}
use Rattle.cvl_text.specs.declared.word.Kind.TheVariants as kinds
use Rattle.cvl_text.specs.Answers.{Answer, IntOf, BoolOf}
use Rattle.cvl_calls.specs.Outcomes.{Operand, Held, NumberGiven, TruthGiven, NumbersGiven, TruthsGiven, ◌>>=◌, check}

-- a name that stands for a value of any type
abbrev pub any_value : Operand → Result Content Fault
any_value (Held (Some v)) = Ok v
any_value (Held None) = Err NoVector
any_value other = Err WrongType

abbrev pub ints_in : Content → Result (List ℤ) Fault
ints_in (Ints xs) = Ok xs
ints_in other = Err WrongType

abbrev pub bools_in : Content → Result (List Bool) Fault
bools_in (Bools bs) = Ok bs
bools_in other = Err WrongType

abbrev pub segs_in : Content → Result (List ℕ) Fault
segs_in (Segs ls) = Ok ls
segs_in other = Err WrongType

-- a name that stands for a vector of integers, one of truth values, a segment list
abbrev pub ints : Operand → Result (List ℤ) Fault
ints o = any_value o >>= ints_in

abbrev pub bools : Operand → Result (List Bool) Fault
bools o = any_value o >>= bools_in

abbrev pub segs : Operand → Result (List ℕ) Fault
segs o = any_value o >>= segs_in

-- all items that are in the line
abbrev pub numbers : Operand → Result (List ℤ) Fault
numbers (NumbersGiven xs) = Ok xs
numbers other = Err WrongType

abbrev pub truth_values : Operand → Result (List Bool) Fault
truth_values (TruthsGiven bs) = Ok bs
truth_values other = Err WrongType

-- a number in the line, and a truth value
abbrev pub number : Operand → Result ℤ Fault
number (NumberGiven x) = Ok x
number other = Err WrongType

abbrev pub truth : Operand → Result Bool Fault
truth (TruthGiven b) = Ok b
truth other = Err WrongType

-- A type of items: how the vector that a name stands for is read, all items of a line, and one in it; and what items are as
-- a value and as a reply.
pub record ItemType (X : Type 0) : Type 0 where
  pub read : Operand → Result (List X) Fault
  pub listed : Operand → Result (List X) Fault
  pub one : Operand → Result X Fault
  pub vector : List X → Content
  pub answer : X → Answer

abbrev pub integers : ItemType ℤ
integers = record { read = ints; listed = numbers; one = number; vector = λ xs. Ints xs; answer = λ x. IntOf x }

abbrev pub truths : ItemType Bool
truths = record { read = bools; listed = truth_values; one = truth; vector = λ bs. Bools bs; answer = λ b. BoolOf b }

-- a name that stands for a vector of the kind
abbrev pub items_in : Kind → Content → Result Content Fault
items_in kinds.Z (Ints xs) = Ok (Ints xs)
items_in kinds.B (Bools bs) = Ok (Bools bs)
items_in kind other = Err WrongType

abbrev pub items : Kind → Operand → Result Content Fault
items kind o = any_value o >>= items_in kind

-- a vector of the same type of items, made of the items
abbrev pub over_items : ((X : Type 0) → List X → List X) → Content → Content
over_items f (Ints xs) = Ints (f ℤ xs)
over_items f (Bools bs) = Bools (f Bool bs)
over_items f (Segs ls) = Segs ls

-- a number of items: not below 0, and no more than the limit
abbrev pub count_in : ℕ → ℤ → Result ℕ Fault
count_in limit (negsuc n) = Err WrongLength
count_in limit (pos n) = do
  fits ← check (nat_le n limit) TooLong
  Ok n

-- a number in the line that says how many items there are
abbrev pub count : ℕ → Operand → Result ℕ Fault
count limit o = number o >>= count_in limit

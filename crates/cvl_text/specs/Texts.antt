-- How values and replies are written.
use Rattle.std.specs.Prelude.{◌≡◌, ℕ, ℤ, pos, Bool, List, ◌∷◌, ◌++◌, codes}
use Rattle.std.specs.List.{flat_map}
use Rattle.std.specs.Fmt.{signed_decimal}
use Rattle.vector_memory.specs.Contents.{Content, Ints, Bools, Segs}
use Rattle.cvl_text.specs.declared.fault.Fault.{Fault}
use Rattle.cvl_text.specs.declared.fault.Fault.TheVariants as faults
use Rattle.cvl_text.specs.Answers.{Answer, Done, IntOf, BoolOf, VectorOf, FaultOf}
use Rattle.cvl_text.specs.TruthValues.{truth_text}

-- a space and the number
abbrev pub number_item : ℤ → List ℕ
number_item x = 32 ∷ signed_decimal x

-- a space and T or F
abbrev pub truth_item : Bool → List ℕ
truth_item b = 32 ∷ truth_text b

-- a space and the length
abbrev pub length_item : ℕ → List ℕ
length_item n = number_item (pos n)

abbrev pub value_text : Content → List ℕ
value_text (Ints xs) = 122 ∷ flat_map number_item xs
value_text (Bools bs) = 98 ∷ flat_map truth_item bs
value_text (Segs ls) = 115 ∷ flat_map length_item ls

abbrev pub fault_text : Fault → List ℕ
fault_text faults.NoVector = codes "fault 1"
fault_text faults.WrongType = codes "fault 2"
fault_text faults.WrongLength = codes "fault 3"
fault_text faults.BadSegments = codes "fault 4"
fault_text faults.BadIndex = codes "fault 5"
fault_text faults.ZeroDivisor = codes "fault 6"
fault_text faults.BadShift = codes "fault 7"
fault_text faults.TooLong = codes "fault 8"
fault_text faults.NoRoom = codes "fault 9"
fault_text faults.TooManyNames = codes "fault 10"

abbrev pub answer_text : Answer → List ℕ
answer_text Done = codes "ok"
answer_text (IntOf x) = codes "int " ++ signed_decimal x
answer_text (BoolOf b) = codes "bool " ++ truth_text b
answer_text (VectorOf v) = value_text v
answer_text (FaultOf f) = fault_text f

-- new is old, with something behind it
abbrev pub IsContinued : List ℕ → List ℕ → Type 0
IsContinued old new = (more : List ℕ) × (new ≡ old ++ more)

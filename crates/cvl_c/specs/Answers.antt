-- What C gets of a reply.
use Rattle.std.specs.Prelude.{◌≡◌, ℕ, ℤ, pos, Bool, true, List, [], length, take, drop, ◌++◌, Option, Some, None, slice_get, unwrap_or}
use Rattle.std.specs.Option.{option_map}
use Rattle.vector_memory.specs.declared.value.Value.TheVariants as values
use Rattle.vector_memory.specs.Contents.{content_of, size_of}
use Rattle.cvl_text.specs.declared.fault.Fault.{Fault}
use Rattle.cvl_text.specs.declared.fault.Fault.TheVariants as faults
use Rattle.cvl_text.specs.declared.reply.Reply.{Reply}
use Rattle.cvl_text.specs.declared.reply.Reply.TheVariants as replies
use Rattle.cvl_text.specs.Answers.{answer_of}
use Rattle.cvl_text.specs.Texts.{answer_text}
use Rattle.cvl_port.specs.declared.last.Last.{Last}
use Rattle.cvl_port.specs.Replies.{replies_of}
use Rattle.cvl_c.specs.declared.answer.Answer.{Answer}

abbrev pub fault_number : Fault → ℕ
fault_number faults.NoVector = 1
fault_number faults.WrongType = 2
fault_number faults.WrongLength = 3
fault_number faults.BadSegments = 4
fault_number faults.BadIndex = 5
fault_number faults.ZeroDivisor = 6
fault_number faults.BadShift = 7
fault_number faults.TooLong = 8
fault_number faults.NoRoom = 9
fault_number faults.TooManyNames = 10

-- 0 done, 1 a number, 2 a truth value, 3 integers, 4 truth values, 5 a segment list, 6 a fault
abbrev pub kind_of : Reply → ℕ
kind_of replies.Done = 0
kind_of (replies.Int x) = 1
kind_of (replies.Bool b) = 2
kind_of (replies.Vector (values.Ints xs)) = 3
kind_of (replies.Vector (values.Bools bs)) = 4
kind_of (replies.Vector (values.Segs s)) = 5
kind_of (replies.Fault f) = 6

abbrev pub fault_in : Reply → ℕ
fault_in (replies.Fault f) = fault_number f
fault_in other = 0

abbrev pub value_in : Reply → ℤ
value_in (replies.Int x) = x
value_in (replies.Bool true) = pos 1
value_in other = pos 0

abbrev pub count_in : Reply → ℕ
count_in (replies.Vector v) = size_of (content_of v)
count_in other = 0

-- the answer that shows a reply, one of so many, whose first stands at a place
abbrev pub showing : ℕ → ℕ → Reply → Answer
showing place count reply = record { kind = kind_of reply; fault = fault_in reply; value = value_in reply; count = count_in reply; place = place; replies = count }

-- the answer that shows the reply of a number, of the last replies of a port
abbrev pub shown : ℕ → Last → ℕ → Option Answer
shown place last number = option_map (showing place (length (replies_of last))) (slice_get (replies_of last) number)

-- the answer shows it now, and is as it was where there is none
abbrev pub Shows : ℕ → Last → ℕ → Answer → Answer → Type 0
Shows place last number old new = new ≡ unwrap_or (shown place last number) old

-- the items of a reply of that type; of another none
abbrev pub ints_of : Option Reply → List ℤ
ints_of (Some (replies.Vector (values.Ints xs))) = xs.items
ints_of other = []

abbrev pub bools_of : Option Reply → List Bool
bools_of (Some (replies.Vector (values.Bools bs))) = bs.items
bools_of other = []

abbrev pub lengths_of : Option Reply → List ℕ
lengths_of (Some (replies.Vector (values.Segs s))) = s
lengths_of other = []

abbrev pub text_of : Option Reply → List ℕ
text_of (Some reply) = answer_text (answer_of reply)
text_of None = []

-- as many items as fit, and behind them what was there
abbrev pub written_over : {X : Type 0} → List X → List X → List X
written_over items room = take (length room) items ++ drop (length items) room

-- A reply, apart from where it lies in memory.
use Rattle.std.specs.Prelude.{ℤ, Bool}
use Rattle.vector_memory.specs.Contents.{Content, content_of}
use Rattle.cvl_text.specs.declared.fault.Fault.{Fault}
use Rattle.cvl_text.specs.declared.reply.Reply.{Reply}
use Rattle.cvl_text.specs.declared.reply.Reply.TheVariants as replies

pub data Answer : Type 0 where
  Done : Answer
  IntOf : ℤ → Answer
  BoolOf : Bool → Answer
  VectorOf : Content → Answer
  FaultOf : Fault → Answer

abbrev pub answer_of : Reply → Answer
answer_of replies.Done = Done
answer_of (replies.Int x) = IntOf x
answer_of (replies.Bool b) = BoolOf b
answer_of (replies.Vector v) = VectorOf (content_of v)
answer_of (replies.Fault f) = FaultOf f

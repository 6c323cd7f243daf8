use Rattle.std.proofs.Common.{◌≡◌, ◌++◌, ◌≤◌, ◌+◌, drop, length, map}
use Rattle.std.specs.Prelude.{IsTrue, is_some, vec_len, vec_capacity}
use Rattle.vector_memory.specs.States.{changes_left, ended, undone}
use Rattle.cvl_text.specs.Answers.{answer_of}
use Rattle.call_history.specs.Blocks.{RisesBy, after, metered, replies_to}
use Rattle.call_history.proofs.block.run_each.Given as goal

-- what the calls that are left make of the memory, and answer, is what all of them do
abbrev pub invariant-loop-call : goal.invariant-loop-call
invariant-loop-call g l = record {
  leads : after (ended l.memory) (drop l.call-index l.calls) ≡ after (ended l.fn.memory) l.calls;
  answers : map answer_of l.replies.items ++ replies_to (ended l.memory) (drop l.call-index l.calls) ≡ map answer_of l.fn.replies.items ++ replies_to (ended l.fn.memory) l.calls;
  counts : metered (ended l.memory) (drop l.call-index l.calls) l.meter ≡ metered (ended l.fn.memory) l.calls l.fn.meter;
  rises : RisesBy l.call-index l.fn.meter l.meter;
  in_block : IsTrue (is_some l.memory.block);
  changes : length (drop l.call-index l.calls) ≤ changes_left l.memory;
  space : vec_len l.replies + length (drop l.call-index l.calls) ≤ vec_capacity l.replies;
  before : undone l.memory ≡ undone l.fn.memory;
}

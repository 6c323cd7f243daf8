use Rattle.std.proofs.Common.{◌≡◌, ◌++◌, length}
use Rattle.vector_memory.specs.Blocks.{live}
use Rattle.vector_memory.proofs.entries.EntriesIterator.next.Given as goal

abbrev pub invariant-loop-entry : goal.invariant-loop-entry
invariant-loop-entry l = live l.self-inside.freed.now.keys l.self-inside.held ++ l.self-inside.late ≡ l.fn.self

abbrev pub decreases-loop-entry : goal.decreases-loop-entry
decreases-loop-entry l = length l.self-inside.held

use Rattle.std.proofs.Common.{◌≡◌, ◌++◌, map}
use Rattle.vector_memory.specs.States.{contents}
use Rattle.call_history.specs.Shown.{shown}
use Rattle.script_main.proofs.order.listed.Given as goal

abbrev pub invariant-loop-entry : goal.invariant-loop-entry
invariant-loop-entry l = map shown l.entries.items ++ contents l.entry-iterator ≡ l.memory.entries

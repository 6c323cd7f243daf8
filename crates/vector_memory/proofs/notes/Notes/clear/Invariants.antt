use Rattle.std.proofs.Common.{length}
use Rattle.vector_memory.proofs.notes.Notes.clear.Given as goal

abbrev pub decreases-loop : goal.decreases-loop
decreases-loop l = length l.self.entries

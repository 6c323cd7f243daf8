use Rattle.std.proofs.Common.{◌≡◌, length}
use Rattle.vector_memory.specs.Blocks.{restored}
use Rattle.vector_memory.proofs.block.Block.undo.Given as goal

abbrev pub invariant-loop-index : goal.invariant-loop-index
invariant-loop-index l = restored l.held.entries l.self.replaced.entries ≡ restored l.fn.held.entries l.fn.self.replaced.entries

abbrev pub decreases-loop-index : goal.decreases-loop-index
decreases-loop-index l = length l.self.replaced.entries

use Rattle.std.proofs.Common.{length}
use Rattle.vector_memory.proofs.name_text.+unpack.Given as goal

abbrev pub decreases-unpack : goal.decreases-unpack
decreases-unpack l = length l.bytes.now

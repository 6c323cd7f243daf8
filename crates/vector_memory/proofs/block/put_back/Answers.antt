use Rattle.std.proofs.Common.{sym, arith}
use Rattle.vector_memory.proofs.BlockLemmas.{set-past}
use Rattle.vector_memory.proofs.block.put_back.Goals as goal

pub returns-else-index-len : goal.returns-else-index-len
returns-else-index-len c = sym (set-past c.args.held.now.entries c.args.index c.args.value (omega (arith, c.len.ensures.len, c.if-index-len.false)))

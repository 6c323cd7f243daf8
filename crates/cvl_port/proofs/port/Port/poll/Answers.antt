use Rattle.std.proofs.Common.{inr}
use Rattle.cvl_port.proofs.port.Port.poll.Goals as goal

pub returns-clause-told : goal.returns-clause-told
returns-clause-told c = inr (c.in-OutOfMemoryBlock.field-0, c.in-OutOfMemoryBlock.ensures.block_back)

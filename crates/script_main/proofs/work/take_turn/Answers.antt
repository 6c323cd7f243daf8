use Rattle.std.proofs.Common.{rules}
use Rattle.script_main.proofs.work.take_turn.Goals as goal

pub returns-in-One-clause-turn : goal.returns-in-One-clause-turn
returns-in-One-clause-turn g c = rw c.in-One.is c.take_call.ensures.turn

pub returns-in-Many-clause-turn : goal.returns-in-Many-clause-turn
returns-in-Many-clause-turn g c = rw c.in-Many.is c.take_block.ensures.turn

use Rattle.vector_memory.specs.States.{bounds_in}
use Rattle.combiner.proofs.Seats.{newcomers_new}
use Rattle.combiner.proofs.shared.Shared.with_edition.Goals as goal

pub returns-in-Ok-clause-each : goal.returns-in-Ok-clause-each
returns-in-Ok-clause-each c = newcomers_new _ (bounds_in c.args.edition c.args.room) c.args.callers _ c.in-Ok.ensures.callers

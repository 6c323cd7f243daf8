use Rattle.std.proofs.Common.{length}
use Rattle.cvl_calls.proofs.over.alike.+take_each.Given as goal

abbrev pub decreases-take_each : goal.decreases-take_each
decreases-take_each l = length l.names.now

use Rattle.std.proofs.Common.{subst}
use Rattle.cvl_calls.specs.Judging.{IsReady}
use Rattle.cvl_calls.proofs.running.run_with.Goals as goal

pub permuted-requires-after_bounds : goal.permuted-requires-after_bounds
permuted-requires-after_bounds g c = λ κs h. subst IsReady c.in-Permute.is c.requires

use Rattle.std.proofs.Common.{length}
use Rattle.cvl_calls.proofs.BlockSteps.{outside_may_change}
use Rattle.cvl_calls.proofs.Written.{taken_fits, taken_outside}
use Rattle.cvl_calls.proofs.over.held.give.Goals as goal

pub replace-requires : goal.replace-requires
replace-requires c = record {
  fits = taken_fits c.args.memory.now c.args.name (length c.args.items.items) c.requires;
  may_change = outside_may_change c.args.memory.now (taken_outside c.args.memory.now c.args.name (length c.args.items.items) c.requires);
}

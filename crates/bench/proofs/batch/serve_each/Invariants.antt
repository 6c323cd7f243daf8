use Rattle.std.proofs.Common.{vec_len}
use Rattle.bench.proofs.batch.serve_each.Given as goal

abbrev pub invariant-loop-request : goal.invariant-loop-request
invariant-loop-request g l = Unit {0}

abbrev pub decreases-loop-request : goal.decreases-loop-request
decreases-loop-request g l = vec_len l.lists.requests

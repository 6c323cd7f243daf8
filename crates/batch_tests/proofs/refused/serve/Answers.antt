use Rattle.std.proofs.Common.{rules}
use Rattle.batch_flatten.proofs.CallerLemmas.{counted-apart, counted-lawful}
use Rattle.batch_tests.proofs.refused.serve.Goals as goal

pub run_batch-requires-clause-lawful : goal.run_batch-requires-clause-lawful
run_batch-requires-clause-lawful g c κs = counted-lawful c.asked-requests.result.0.items (search rules) c.asked-requests.ensures.callers

pub run_batch-requires-clause-distinct : goal.run_batch-requires-clause-distinct
run_batch-requires-clause-distinct g c κs = counted-apart c.asked-requests.result.0.items c.asked-requests.ensures.callers

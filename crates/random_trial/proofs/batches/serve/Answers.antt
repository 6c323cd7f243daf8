use Rattle.std.proofs.Common.{rules}
use Rattle.batch_flatten.proofs.CallerLemmas.{counted-apart, counted-lawful}
use Rattle.random_trial.proofs.batches.serve.Goals as goal

pub run_batch-ran-requires-clause-lawful : goal.run_batch-ran-requires-clause-lawful
run_batch-ran-requires-clause-lawful c κs = counted-lawful c.in_ok-requests.requests.items (search rules) c.in_ok-requests.ensures.callers

pub run_batch-ran-requires-clause-distinct : goal.run_batch-ran-requires-clause-distinct
run_batch-ran-requires-clause-distinct c κs = counted-apart c.in_ok-requests.requests.items c.in_ok-requests.ensures.callers

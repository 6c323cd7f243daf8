use Rattle.std.proofs.Common.{rules}
use Rattle.batch_flatten.proofs.CallerLemmas.{counted-apart, counted-lawful}
use Rattle.batch_tests.proofs.asking.serve.Goals as goal

pub run_batch-ran-requires-clause-lawful : goal.run_batch-ran-requires-clause-lawful
run_batch-ran-requires-clause-lawful g c κs = counted-lawful c.batch_of-requests.result.items (search rules) c.batch_of-requests.ensures.callers

pub run_batch-ran-requires-clause-distinct : goal.run_batch-ran-requires-clause-distinct
run_batch-ran-requires-clause-distinct g c κs = counted-apart c.batch_of-requests.result.items c.batch_of-requests.ensures.callers

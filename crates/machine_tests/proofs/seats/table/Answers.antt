use Rattle.std.proofs.Common.{rules}
use Rattle.machine_tests.proofs.seats.table.Goals as goal

pub new-requires-3-clause-spare : goal.new-requires-3-clause-spare
new-requires-3-clause-spare c after = record {
  no_requests = search rules;
  no_outcomes = search rules;
  request_spaces = search rules;
  outcome_spaces = search rules;
}

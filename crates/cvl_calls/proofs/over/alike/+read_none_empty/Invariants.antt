use Rattle.std.proofs.Common.{length}
use Rattle.cvl_calls.proofs.over.alike.+read_none_empty.Given as goal

abbrev pub decreases-read_none_empty : goal.decreases-read_none_empty
decreases-read_none_empty l = length l.calls.now

use Rattle.std.proofs.Common.{length}
use Rattle.call_history.proofs.alike.+put_briefs.Given as goal

abbrev pub decreases-put_briefs : goal.decreases-put_briefs
decreases-put_briefs l = length l.calls.now

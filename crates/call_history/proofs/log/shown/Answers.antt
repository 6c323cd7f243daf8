use Rattle.std.proofs.Common.{sym, ◌∙◌}
use Rattle.call_history.proofs.Logged.{call-brief}
use Rattle.call_history.proofs.log.shown.Goals as goal

pub returns-in_default : goal.returns-in_default
returns-in_default c = c.call_again.ensures ∙ sym (call-brief c.args.calls.now c.args.kept c.in_default.not-Whole)

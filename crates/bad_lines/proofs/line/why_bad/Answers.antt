use Rattle.bad_lines.proofs.LineGrammar.{reason_where_bad}
use Rattle.bad_lines.proofs.line.why_bad.Goals as goal

pub returns-clause-good : goal.returns-clause-good
returns-clause-good c = reason_where_bad c.args.place c.args.line.now c.wrong_line.result c.wrong_line.ensures

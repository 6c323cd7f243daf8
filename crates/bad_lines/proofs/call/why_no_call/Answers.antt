use Rattle.cvl_text.specs.Words.{words_of}
use Rattle.bad_lines.proofs.Grammar.{reason_where_no_task}
use Rattle.bad_lines.proofs.call.why_no_call.Goals as goal

pub returns-clause-call : goal.returns-clause-call
returns-clause-call c = reason_where_no_task c.args.text.now c.args.edition (words_of c.args.text.now) c.wrong_in.result c.wrong_in.ensures

use Rattle.cvl_calls.proofs.Written.{work_by-read}
use Rattle.cvl_calls.proofs.over.one.operand.Goals as goal

pub returns-clause-gives : goal.returns-clause-gives
returns-clause-gives c = work_by-read _ c.args.change _ _ c.ints.ensures.items

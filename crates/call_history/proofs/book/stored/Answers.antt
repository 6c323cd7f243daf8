use Rattle.std.proofs.Common.{subst}
use Rattle.cvl_text.specs.Tasks.{task_of}
use Rattle.cvl_calls.specs.Outcomes.{operands_of}
use Rattle.cvl_calls.proofs.Fitting.{MakesFitting, operands_of-fits}
use Rattle.cvl_calls.proofs.WorkLemmas.{work-fits}
use Rattle.call_history.proofs.book.stored.Goals as goal

pub store_joined-requires-clause-fits : goal.store_joined-requires-clause-fits
store_joined-requires-clause-fits c =
    let task = task_of c.args.call.now in
    let m = c.args.memory.now in
    (subst (MakesFitting m.limit) c.requires.work (work-fits m.limit task.word (operands_of m task.arguments) (operands_of-fits m task.arguments c.memories_are_lawful.ensures))).fits

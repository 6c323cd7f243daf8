use Rattle.std.proofs.Common.{subst}
use Rattle.cvl_text.specs.Tasks.{task_of}
use Rattle.cvl_calls.specs.Outcomes.{operands_of}
use Rattle.cvl_calls.specs.Steps.{work_on}
use Rattle.cvl_calls.proofs.Fitting.{MakesFitting, operands_of-fits}
use Rattle.cvl_calls.proofs.WorkLemmas.{work-fits}
use Rattle.call_history.specs.declared.work.Work.{Work}
use Rattle.call_history.specs.Works.{IsWork}
use Rattle.call_history.proofs.book.done.Goals as goal

pub apply_joined-requires : goal.apply_joined-requires
apply_joined-requires c =
    let task = task_of c.args.call.now in
    let m = c.args.memory.now in
    let told = subst (λ (w : Work). IsWork w (work_on m task)) c.in-Store.is c.requires.work in
    record {
      fits = (subst (MakesFitting m.limit) told (work-fits m.limit task.word (operands_of m task.arguments) (operands_of-fits m task.arguments c.memories_are_lawful.ensures))).fits;
      may_change = c.requires.may_change;
    }

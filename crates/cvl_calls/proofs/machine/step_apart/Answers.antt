use Rattle.std.proofs.Common.{◌≡◌, Bool, sym, ap, ◌∙◌, subst}
use Rattle.vector_memory.specs.States.{State}
use Rattle.cvl_text.specs.Tasks.{Task, task_of}
use Rattle.cvl_calls.specs.Judging.{made, word_of}
use Rattle.cvl_calls.specs.Runs.{runs_kernel}
use Rattle.cvl_calls.specs.Steps.{CountsStep, runs_on, work_on}
use Rattle.cvl_calls.proofs.Counted.{counts-step, runs-without_fault}
use Rattle.cvl_calls.proofs.machine.step_apart.Goals as goal

-- the kernel that ran is that of the call's word
pub returns-in-Ok-run_with-clause-counted : goal.returns-in-Ok-run_with-clause-counted
returns-in-Ok-run_with-clause-counted g c =
    let m : State = c.args.memory.now in
    let task : Task = task_of c.args.call.now in
    let runs : runs_on m task ≡ runs_kernel (word_of c.in-Ok.judged) =
    runs-without_fault (runs_kernel task.word) (work_on m task) (made c.in-Ok.judged) c.in-Ok.ensures.gives ∙ ap runs_kernel (sym c.in-Ok.ensures.word) in
    let P : Bool → Type 0 = λ b. CountsStep b c.apply_with.result c.args.meter.now c.run_with.new.meter in
    subst P (sym runs) (counts-step _ (runs_kernel (word_of c.in-Ok.judged)) c.in-Ok-run_with.product c.apply_with.result c.args.meter.now c.run_with.new.meter c.in-Ok-run_with.ensures.counted)

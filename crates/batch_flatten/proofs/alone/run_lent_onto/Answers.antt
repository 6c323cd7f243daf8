use Rattle.std.proofs.Common.{is_ok}
use Rattle.cvl_text.specs.Tasks.{task_of}
use Rattle.cvl_calls.specs.Runs.{runs_kernel}
use Rattle.cvl_calls.specs.Steps.{work_on}
use Rattle.call_history.specs.Books.{memory_of}
use Rattle.batch_flatten.proofs.CountLemmas.{rises-kernel}
use Rattle.batch_flatten.proofs.alone.run_lent_onto.Goals as goal

pub returns-in-Ok-run_metered_lent-clause-counted : goal.returns-in-Ok-run_metered_lent-clause-counted
returns-in-Ok-run_metered_lent-clause-counted g c =
    let t = task_of c.args.call.now in
    rises-kernel (runs_kernel t.word) (is_ok (work_on (memory_of c.args.book.now) t)) c.run_metered_lent.result c.args.meter.now c.run_metered_lent.new.meter c.run_metered_lent.ensures.counted

pub returns-in-Err-run_metered_lent-clause-counted : goal.returns-in-Err-run_metered_lent-clause-counted
returns-in-Err-run_metered_lent-clause-counted g c =
    let t = task_of c.args.call.now in
    rises-kernel (runs_kernel t.word) (is_ok (work_on (memory_of c.args.book.now) t)) c.run_metered_lent.result c.args.meter.now c.run_metered_lent.new.meter c.run_metered_lent.ensures.counted

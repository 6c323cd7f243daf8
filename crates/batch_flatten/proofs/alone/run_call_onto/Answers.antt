use Rattle.std.proofs.Common.{is_ok}
use Rattle.cvl_text.specs.Tasks.{task_of}
use Rattle.cvl_calls.specs.Runs.{runs_kernel}
use Rattle.cvl_calls.specs.Steps.{work_on}
use Rattle.call_history.specs.Books.{memory_of}
use Rattle.batch_flatten.proofs.CountLemmas.{rises-kernel}
use Rattle.batch_flatten.proofs.alone.run_call_onto.Goals as goal

pub returns-clause-counted : goal.returns-clause-counted
returns-clause-counted g c =
    let t = task_of c.args.call in
    rises-kernel (runs_kernel t.word) (is_ok (work_on (memory_of c.args.book.now) t)) c.run_metered.result c.args.meter.now c.run_metered.new.meter c.run_metered.ensures.counted

use Rattle.std.proofs.Common.{◌≡◌, Result, Err, sym, ap, ◌∙◌, subst}
use Rattle.script_lines.specs.declared.fault.RunFault.{RunFault}
use Rattle.script_lines.specs.Runs.{IsCounted}
use Rattle.std.proofs.lemmas.Result.{err_from_is_err_and}
use Rattle.script_main.proofs.SharedLemmas.{reports, counts, unread_counts}
use Rattle.script_main.proofs.shared.run_shared.Goals as goal

pub returns-clause-runs : goal.returns-clause-runs
returns-clause-runs g c =
    reports c.args.room c.in_ok-script.script c.in_ok-settled.settled.replies c.in_ok-settled.settled.book c.in_ok-settled.ensures.settled c.write_report.result (g.R.Source.rest c.args.reader.now) (g.R.Source.rest c.read_whole.new.reader)
    (g.W.Sink.written c.args.writer.now) (g.W.Sink.written c.read_whole.new.writer) (g.W.Sink.written c.write_report.new.writer) (g.W.Sink.failures c.read_whole.new.writer) (g.W.Sink.failures c.write_report.new.writer)
    c.in_ok-script.ensures.read c.write_report.ensures.written c.write_report.ensures.begun c.write_report.ensures.fault

pub returns-clause-counted : goal.returns-clause-counted
returns-clause-counted g c =
    counts c.write_report.result (g.R.Source.failures c.args.reader.now) (g.R.Source.failures c.read_whole.new.reader) (g.W.Sink.failures c.args.writer.now) (g.W.Sink.failures c.read_whole.new.writer)
    (g.W.Sink.failures c.write_report.new.writer) c.in_ok-script.ensures.counted c.write_report.ensures.fault

pub returns-in_err-script-clause-counted : goal.returns-in_err-script-clause-counted
returns-in_err-script-clause-counted g c =
    let said = c.in_err-script.ensures in
    let fault = c.in_err-script.field-0.0 in
    let given = err_from_is_err_and c.from_residual.result c.from_residual.ensures.1 in
    let is : c.from_residual.result ≡ Err fault = given.1 ∙ ap (λ (f : RunFault). Err f) given.2 in
    let reads = g.R.Source.failures c.args.reader.now in
    let reads' = g.R.Source.failures c.read_whole.new.reader in
    let writes = g.W.Sink.failures c.args.writer.now in
    let writes' = g.W.Sink.failures c.read_whole.new.writer in
    subst (λ (r : Result (Unit {0}) RunFault). IsCounted r reads reads' writes writes') (sym is)
    (unread_counts fault reads reads' writes writes' (λ e. said.cut (ap (λ (f : RunFault). Err f) e)) (λ e. said.failed (ap (λ (f : RunFault). Err f) e))
    (λ worker e. said.unstopped worker (ap (λ (f : RunFault). Err f) e)))

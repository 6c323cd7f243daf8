use Rattle.std.proofs.Common.{Err, subst}
use Rattle.script_lines.specs.declared.fault.InputFault.{InputFault}
use Rattle.script_lines.specs.declared.fault.ServeFault.TheVariants as ends
use Rattle.script_lines.specs.Scripts.{AtStart, text_from, whole_lines}
use Rattle.script_lines.specs.Runs.{HasEnded}
use Rattle.script_lines.proofs.StreamLemmas.{Awaits-done}
use Rattle.script_lines.proofs.ServeLemmas.{unwritten}
use Rattle.script_lines.proofs.run.Run.stop.Goals as goal

pub returns-in_default-clause-runs : goal.returns-in_default-clause-runs
returns-in_default-clause-runs g c = λ m input left old s.
    unwritten m input left old (g.W.Sink.written c.args.writer.now) (g.W.Sink.written c.flush.new.writer) c.args.self.now.waiting.items c.args.halt s c.in_default.ensures.begun

pub returns-in-Read-clause-runs : goal.returns-in-Read-clause-runs
returns-in-Read-clause-runs g c = λ m input left old s.
    let now = g.W.Sink.written c.args.writer.now in
    let waiting = c.args.self.now.waiting.items in
    let ended = subst (λ (h : InputFault). HasEnded (Err (ends.Input h)) m input left old now waiting) c.in-Read.is s in
    record { cut = ended.0; text = Awaits-done old now (g.W.Sink.written c.flush.new.writer) waiting (text_from m AtStart (whole_lines ended.0.read)) ended.2 c.in-Ok.ensures.written }

use Rattle.std.proofs.Common.{Result, subst}
use Rattle.script_lines.specs.declared.fault.ServeFault.{ServeFault}
use Rattle.script_lines.specs.Scripts.{text_of}
use Rattle.script_lines.specs.Runs.{HasEnded}
use Rattle.script_lines.proofs.StreamLemmas.{HasBegun-done}
use Rattle.script_lines.proofs.run.Run.finish.Goals as goal

pub returns-in-Err-clause-runs : goal.returns-in-Err-clause-runs
returns-in-Err-clause-runs g c = λ m input left old s.
    let now = g.W.Sink.written c.args.writer.now in
    let waiting = c.args.self.now.waiting.items in
    let ended = subst (λ (r : Result (Unit {0}) ServeFault). HasEnded r m input left old now waiting) c.in-Ok.is s in
    HasBegun-done old now (g.W.Sink.written c.flush.new.writer) waiting (text_of m input) ended.1 c.in-Err.ensures.begun

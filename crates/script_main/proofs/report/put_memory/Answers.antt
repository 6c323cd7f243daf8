use Rattle.script_main.specs.Reports.{memory_text}
use Rattle.script_main.proofs.PutLemmas.{Puts-nothing}
use Rattle.script_main.proofs.report.put_memory.Goals as goal

pub returns-in_default-clause-put : goal.returns-in_default-clause-put
returns-in_default-clause-put g c =
    Puts-nothing (memory_text c.args.memory.now.entries) c.args.waiting.now.items c.args.waiting.now.items (g.W.Sink.written c.args.writer.now) (g.W.Sink.failures c.args.writer.now)

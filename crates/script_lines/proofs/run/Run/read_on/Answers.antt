use Rattle.call_history.specs.Books.{memory_of}
use Rattle.script_lines.specs.Stages.{stage_of}
use Rattle.script_lines.proofs.WalkLemmas.{walked-lines}
use Rattle.script_lines.proofs.ServeLemmas.{served-written, served-filled, ended-halt, ended-unwritten}
use Rattle.script_lines.proofs.run.Run.read_on.Goals as goal

pub returns-in_default-clause-steps : goal.returns-in_default-clause-steps
returns-in_default-clause-steps g c = λ m input old s.
    let run = c.args.self.now in
    let all = walked-lines input (g.R.Source.rest c.args.reader.now) s.first c.args.lines.now.walk s.walked in
    ended-unwritten m input old (g.W.Sink.written c.args.writer.now) s.first (memory_of run.book) (stage_of run.progress) run.waiting.items s.served (g.W.Sink.written c.flush.new.writer) all.0 all.1 c.in_default.ensures.begun

pub returns-in-Ok-read_more-clause-steps : goal.returns-in-Ok-read_more-clause-steps
returns-in-Ok-read_more-clause-steps g c = λ m input old s.
    let run = c.args.self.now in
    let memory = memory_of run.book in
    let stage = stage_of run.progress in
    let now = g.W.Sink.written c.args.writer.now in
    let new = g.W.Sink.written c.flush.new.writer in
    let waiting = c.flush.new.waiting.items in
    let served = served-written m input old now s.first memory stage run.waiting.items s.served new waiting c.in-Ok.ensures.written c.in-Ok.ensures.none in
    served-filled m input old new s.first memory stage waiting served c.in-Ok-read_more.more (g.R.Source.rest c.read_more.new.reader) c.read_more.new.lines.walk (c.in-Ok-read_more.ensures.fills input s.first s.walked s.served.stage_is)

pub returns-in-Err-clause-steps : goal.returns-in-Err-clause-steps
returns-in-Err-clause-steps g c = λ m input old s.
    let run = c.args.self.now in
    let memory = memory_of run.book in
    let stage = stage_of run.progress in
    let now = g.W.Sink.written c.args.writer.now in
    let new = g.W.Sink.written c.flush.new.writer in
    let waiting = c.flush.new.waiting.items in
    let all = walked-lines input (g.R.Source.rest c.args.reader.now) s.first c.args.lines.now.walk s.walked in
    let served = served-written m input old now s.first memory stage run.waiting.items s.served new waiting c.in-Ok.ensures.written c.in-Ok.ensures.none in
    ended-halt m input old new s.first memory stage waiting served c.in-Err.halt (g.R.Source.rest c.read_more.new.reader) all.0 all.1 (c.in-Err.ensures.fills input s.first s.walked s.served.stage_is)

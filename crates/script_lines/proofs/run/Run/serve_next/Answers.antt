use Rattle.std.proofs.Common.{Bool, subst}
use Rattle.call_history.specs.Books.{memory_of}
use Rattle.script_lines.specs.declared.fault.InputFault.TheVariants as halts
use Rattle.script_lines.specs.Stages.{stage_of}
use Rattle.script_lines.specs.Walks.{Advances}
use Rattle.script_lines.proofs.WalkLemmas.{walked-lines, walked-next}
use Rattle.script_lines.proofs.ServeLemmas.{ended-halt}
use Rattle.script_lines.proofs.run.Run.serve_next.Goals as goal

pub returns-in-Ok-true-clause-steps : goal.returns-in-Ok-true-clause-steps
returns-in-Ok-true-clause-steps g c = λ m input old s.
    let left = g.R.Source.rest c.args.reader.now in
    let next = subst (λ (b : Bool). Advances b c.args.lines.now.walk c.advance.new.self) c.in-Ok-true.field-0-test c.in-Ok-true.ensures in
    c.serve_line.ensures.steps m input left old
    (record { first = s.first; walked = walked-next input left s.first c.args.lines.now.walk s.walked c.advance.new.self.line c.advance.new.self.walk next; served = s.served })

pub returns-in-Err-clause-steps : goal.returns-in-Err-clause-steps
returns-in-Err-clause-steps g c = λ m input old s.
    let run = c.args.self.now in
    let left = g.R.Source.rest c.args.reader.now in
    let all = walked-lines input left s.first c.args.lines.now.walk s.walked in
    ended-halt m input old (g.W.Sink.written c.args.writer.now) s.first (memory_of run.book) (stage_of run.progress) run.waiting.items s.served halts.OutOfMemory left all.0 all.1 tt

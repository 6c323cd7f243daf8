use Rattle.std.proofs.Common.{◌≡◌, ◌++◌, ◌∷◌, [], List, ℕ, Option, Err, sym, ap, ◌∙◌, subst}
use Rattle.vector_memory.specs.States.{State}
use Rattle.call_history.specs.Books.{memory_of}
use Rattle.script_lines.specs.declared.fault.InputFault.{InputFault}
use Rattle.script_lines.specs.declared.fault.ServeFault.TheVariants as ends
use Rattle.script_lines.specs.Scripts.{Bad, line_of}
use Rattle.script_lines.specs.Stages.{stage_of}
use Rattle.script_lines.specs.Runs.{StandsAt, HasServed, HasEnded}
use Rattle.script_lines.proofs.WalkLemmas.{walked-lines}
use Rattle.script_lines.proofs.ServeLemmas.{served-line, served-written, ended-line, ended-unwritten}
use Rattle.script_lines.proofs.run.Run.serve_line.Given.{Over}
use Rattle.script_lines.proofs.run.Run.serve_line.Goals as goal
use Rattle.script_lines.proofs.run.Run.serve_line.Goals.{After-len}

pub returns-in-Err-clause-steps : goal.returns-in-Err-clause-steps
returns-in-Err-clause-steps g c = λ m input left old s.
    let now = g.W.Sink.written c.args.writer.now in
    let run = c.args.self.now in
    let place = c.args.lines.now in
    let fault = c.in-Err.fault in
    let memory = memory_of run.book in
    let stage = stage_of run.progress in
    let ended = ended-line m input old now s.first memory stage run.waiting.items s.served fault place left s.walked
    (λ bad. subst (λ (l : List ℕ). line_of stage l ≡ Bad) c.current.ensures (c.serve_line-served.ensures.bad (c.in-Err.is ∙ ap (λ f. Err f) bad))) in
    subst (λ (w : List ℕ). HasEnded (Err (ends.Input c.halt.result)) m input left old now w) (sym c.in-Err.ensures.err)
    (subst (λ (h : InputFault). HasEnded (Err (ends.Input h)) m input left old now run.waiting.items) (sym c.halt.ensures) ended)

-- the line is served, and nothing is written yet
served : (g : Over) (c : After-len g) (m : State) (input : List ℕ) (left old : Option (List ℕ)) (s : StandsAt m input left old (g.W.Sink.written c.args.writer.now) c.args.lines.now (memory_of c.args.self.now.book) (stage_of c.args.self.now.progress) c.args.self.now.waiting.items)
    → HasServed m old (g.W.Sink.written c.args.writer.now) (s.first ++ c.args.lines.now.line ∷ []) (memory_of c.serve_line-served.new.book) (stage_of c.serve_line-served.new.progress) c.serve_line-served.new.out.items
served g c m input left old s =
    let run = c.args.self.now in
    let said = c.in_default.ensures in
    served-line m input old (g.W.Sink.written c.args.writer.now) s.first (memory_of run.book) (stage_of run.progress) run.waiting.items s.served c.args.lines.now.line c.current.result.now
    (memory_of c.serve_line-served.new.book) (stage_of c.serve_line-served.new.progress) c.serve_line-served.new.out.items
    c.current.ensures said.good said.memory said.stage said.text

pub returns-then-len-lt-GATHERED-clause-steps : goal.returns-then-len-lt-GATHERED-clause-steps
returns-then-len-lt-GATHERED-clause-steps g c = λ m input left old s.
    record { first = s.first ++ c.args.lines.now.line ∷ []; walked = s.walked; served = served g (goal.at.returns-then-len-lt-GATHERED-clause-steps g c).After-len m input left old s }

pub returns-in-Ok-clause-steps : goal.returns-in-Ok-clause-steps
returns-in-Ok-clause-steps g c = λ m input left old s.
    let first = s.first ++ c.args.lines.now.line ∷ [] in
    let now = g.W.Sink.written c.args.writer.now in
    let new = g.W.Sink.written c.flush.new.writer in
    let memory = memory_of c.serve_line-served.new.book in
    let stage = stage_of c.serve_line-served.new.progress in
    let waiting = c.serve_line-served.new.out.items in
    let written = c.in-Ok.ensures in
    record { first = first; walked = s.walked; served = served-written m input old now first memory stage waiting (served g (goal.at.returns-in-Ok-clause-steps g c).After-len m input left old s) new c.flush.new.waiting.items written.written written.none }

pub returns-in-Err-flush-clause-steps : goal.returns-in-Err-flush-clause-steps
returns-in-Err-flush-clause-steps g c = λ m input left old s.
    let place = c.args.lines.now in
    let first = s.first ++ place.line ∷ [] in
    let all = walked-lines input left first place.walk s.walked in
    ended-unwritten m input old (g.W.Sink.written c.args.writer.now) first (memory_of c.serve_line-served.new.book) (stage_of c.serve_line-served.new.progress) c.serve_line-served.new.out.items (served g (goal.at.returns-in-Err-flush-clause-steps g c).After-len m input left old s)
    (g.W.Sink.written c.flush.new.writer) all.0 all.1 c.in-Err-flush.ensures.begun

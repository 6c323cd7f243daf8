use Rattle.std.proofs.Common.{◌≡◌, Bool, List, ℕ, Err, sym, ap, ◌∙◌, subst}
use Rattle.script_lines.specs.declared.fault.InputFault.{InputFault}
use Rattle.script_lines.specs.Scripts.{Bad, line_of}
use Rattle.script_lines.specs.Stages.{stage_of}
use Rattle.script_lines.specs.Walks.{Walk, Advances, HasWalked}
use Rattle.script_lines.specs.Readings.{lists_of, EndsReading}
use Rattle.script_lines.proofs.ReadLemmas.{read-line, read-bad, read-filled}
use Rattle.script_lines.proofs.reading.read_next.Goals as goal

pub returns-in-Ok-clause-reads : goal.returns-in-Ok-clause-reads
returns-in-Ok-clause-reads g c = λ input r.
    let old = c.args.lines.now.walk in
    let stage = stage_of c.args.progress.now in
    let place = c.advance.new.self in
    let said = c.in-Ok.ensures in
    let next = subst (λ (b : Bool). Advances b old place) c.in-Ok-true.field-0-test c.in-Ok-true.ensures in
    read-line input (g.R.Source.rest c.args.reader.now) old stage (lists_of c.args.jobs.now) r place c.current.result.now (lists_of c.read_line.new.jobs) (stage_of c.read_line.new.progress) next
    c.current.ensures said.good said.adds said.stage

pub returns-in-Err-read_line-clause-reads : goal.returns-in-Err-read_line-clause-reads
returns-in-Err-read_line-clause-reads g c = λ input r.
    let old = c.args.lines.now.walk in
    let stage = stage_of c.args.progress.now in
    let place = c.advance.new.self in
    let left = g.R.Source.rest c.args.reader.now in
    let fault = c.in-Err-read_line.fault in
    let lists = lists_of c.read_line.new.jobs in
    let stage' = stage_of c.read_line.new.progress in
    let next = subst (λ (b : Bool). Advances b old place) c.in-Ok-true.field-0-test c.in-Ok-true.ensures in
    subst (λ (h : InputFault). EndsReading (Err h) stage' lists input left) (sym c.halt.ensures)
    (read-bad input left old stage (lists_of c.args.jobs.now) r fault place left stage' lists next
    (λ bad. subst (λ (l : List ℕ). line_of stage l ≡ Bad) c.current.ensures (c.read_line.ensures.bad (c.in-Err-read_line.is ∙ ap (λ f. Err f) bad))))

pub returns-in-Ok-false-clause-reads : goal.returns-in-Ok-false-clause-reads
returns-in-Ok-false-clause-reads g c = λ input r.
    let old = c.args.lines.now.walk in
    let left = g.R.Source.rest c.args.reader.now in
    let stage = stage_of c.args.progress.now in
    let stays = subst (λ (b : Bool). Advances b old c.advance.new.self) c.in-Ok-false.field-0-test c.in-Ok-false.ensures in
    let walked = subst (λ (w : Walk). HasWalked input left r.first w) (sym stays.0) r.walked in
    read-filled input left old stage (lists_of c.args.jobs.now) r c.read_more.result (g.R.Source.rest c.read_more.new.reader) c.read_more.new.lines.walk (c.read_more.ensures.fills input r.first walked r.stage_is)

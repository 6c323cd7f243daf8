use Rattle.std.proofs.Common.{Bool, Ok, ◌∙◌, subst}
use Rattle.script_lines.specs.Stages.{stage_of}
use Rattle.script_lines.specs.Walks.{Fills}
use Rattle.script_lines.proofs.WalkLemmas.{end-fills}
use Rattle.script_lines.proofs.ending.read_more.Goals as goal

pub returns-clause-fills : goal.returns-clause-fills
returns-clause-fills g c = λ input first walked goes.
    let left = g.R.Source.rest c.fill.new.reader in
    let walk = c.fill.new.self.walk in
    let all = subst (λ (b : Bool). Fills (Ok b) input first left walk) c.if-branch.false (c.in_ok-fill.ensures.fills input first walked) in
    end-fills input first left walk (stage_of c.args.progress.now) c.number.result c.end_at.result all (c.number.ensures ∙ c.fill.ensures.number ∙ walked.number) goes c.end_at.ensures

use Rattle.std.proofs.Common.{map, sym, ap, ◌∙◌}
use Rattle.cvl_text.specs.Tasks.{task_of}
use Rattle.script_lines.specs.Stages.{stage_of}
use Rattle.script_lines.proofs.bad_line.bad_line.Goals as goal

pub returns-in-Inside-clause-behind : goal.returns-in-Inside-clause-behind
returns-in-Inside-clause-behind c = λ other. (sym c.ended.ensures ∙ c.if-ended.true, map task_of c.in-Inside.block.calls.items, ap stage_of c.in-Inside.is)

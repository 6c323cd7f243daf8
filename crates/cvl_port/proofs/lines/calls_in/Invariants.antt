use Rattle.std.proofs.Common.{◌≡◌, length, map}
use Rattle.cvl_text.specs.Tasks.{task_of}
use Rattle.cvl_port.specs.Lines.{each, line_task, lines_of, tasks_in}
use Rattle.cvl_port.proofs.LineLemmas.{onto}
use Rattle.cvl_port.proofs.lines.calls_in.Given as goal

abbrev pub invariant-loop-line : goal.invariant-loop-line
invariant-loop-line l = onto (map task_of l.calls.items) (each line_task (lines_of l.rest)) ≡ tasks_in l.text

abbrev pub decreases-loop-line : goal.decreases-loop-line
decreases-loop-line l = length l.rest

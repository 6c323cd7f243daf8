use Rattle.std.proofs.Common.{◌≡◌, drop, map}
use Rattle.cvl_text.specs.Tasks.{task_of}
use Rattle.cvl_port.specs.Lines.{each}
use Rattle.cvl_port.specs.Posts.{prepared_task, prepared_tasks}
use Rattle.cvl_port.proofs.LineLemmas.{onto}
use Rattle.cvl_port.proofs.preparing.copies.Given as goal

abbrev pub invariant-loop-number : goal.invariant-loop-number
invariant-loop-number l = onto (map task_of l.calls.items) (each (prepared_task l.prepared) (drop l.number-index l.numbers)) ≡ prepared_tasks l.prepared l.numbers

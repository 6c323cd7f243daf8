use Rattle.std.proofs.Common.{◌≡◌, ◌≤◌, IfSome, vec_len}
use Rattle.call_history.specs.Callers.{caller_limit}
use Rattle.script_lines.specs.Stages.{stage_of}
use Rattle.script_lines.specs.Walks.{IsCountable, work_left}
use Rattle.script_lines.specs.Readings.{lists_of, AreLawful, HasRead}
use Rattle.script_lines.proofs.reading.read_input.Given as goal

abbrev pub invariant-loop : goal.invariant-loop
invariant-loop g l = record {
  countable : IsCountable l.lines.walk (g.R.Source.limit l.reader);
  readable : g.R.Source.can_read l.reader;
  reads : g.R.Source.failures l.reader ≡ g.R.Source.failures l.fn.reader;
  lawful : AreLawful (lists_of l.jobs);
  few : vec_len l.jobs ≤ caller_limit;
  read : IfSome (g.R.Source.rest l.fn.reader) (λ input. HasRead input (g.R.Source.rest l.reader) l.lines.walk (stage_of l.progress) (lists_of l.jobs));
}

abbrev pub decreases-loop : goal.decreases-loop
decreases-loop g l = work_left l.lines.walk (g.R.Source.limit l.reader)

use Rattle.std.proofs.Common.{◌≡◌, IfSome}
use Rattle.call_history.specs.Books.{memory_of}
use Rattle.script_lines.specs.Stages.{stage_of}
use Rattle.script_lines.specs.Walks.{IsCountable, work_left}
use Rattle.script_lines.specs.Runs.{ServesOn}
use Rattle.script_lines.proofs.serial.serve_input.Given as goal

abbrev pub invariant-loop : goal.invariant-loop
invariant-loop g l = record {
  countable : IsCountable l.lines.walk (g.R.Source.limit l.reader);
  readable : g.R.Source.can_read l.reader;
  writable : g.W.Sink.can_write l.writer;
  reads : g.R.Source.failures l.reader ≡ g.R.Source.failures l.fn.reader;
  writes : g.W.Sink.failures l.writer ≡ g.W.Sink.failures l.fn.writer;
  serves : IfSome (g.R.Source.rest l.fn.reader) (λ input. ServesOn (memory_of l.fn.run.book) input (g.R.Source.rest l.reader) (g.W.Sink.written l.fn.writer) (g.W.Sink.written l.writer) l.lines.walk (memory_of l.run.book) (stage_of l.run.progress) l.run.waiting.items);
}

abbrev pub decreases-loop : goal.decreases-loop
decreases-loop g l = work_left l.lines.walk (g.R.Source.limit l.reader)

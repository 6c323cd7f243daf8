use Rattle.std.proofs.Common.{Ok, map, take}
use Rattle.std.specs.List.{flat_map}
use Rattle.call_history.specs.Shown.{shown}
use Rattle.script_main.specs.Reports.{Puts, entry_line}
use Rattle.script_main.proofs.report.put_entries.Given as goal

abbrev pub invariant-loop-entry : goal.invariant-loop-entry
invariant-loop-entry g l = record {
  ready : g.W.Sink.can_write l.writer;
  put : Puts (Ok tt) (flat_map entry_line (map shown (take l.entry-index l.entries))) l.fn.waiting.items l.waiting.items
      (g.W.Sink.written l.fn.writer) (g.W.Sink.written l.writer) (g.W.Sink.failures l.fn.writer) (g.W.Sink.failures l.writer);
}

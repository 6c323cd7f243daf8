use Rattle.std.proofs.Common.{Ok, map, take}
use Rattle.cvl_text.specs.Answers.{answer_of}
use Rattle.script_main.specs.Reports.{Puts, replies_text}
use Rattle.script_main.proofs.report.put_all_replies.Given as goal

abbrev pub invariant-loop-caller : goal.invariant-loop-caller
invariant-loop-caller g l = record {
  ready : g.W.Sink.can_write l.writer;
  put : Puts (Ok tt) (replies_text 0 (take l.caller (map (λ own. map answer_of own.items) l.replies))) l.fn.waiting.items l.waiting.items
      (g.W.Sink.written l.fn.writer) (g.W.Sink.written l.writer) (g.W.Sink.failures l.fn.writer) (g.W.Sink.failures l.writer);
}

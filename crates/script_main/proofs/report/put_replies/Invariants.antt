use Rattle.std.proofs.Common.{Ok, map, take}
use Rattle.std.specs.List.{flat_map}
use Rattle.cvl_text.specs.Answers.{answer_of}
use Rattle.script_lines.specs.Scripts.{reply_line}
use Rattle.script_main.specs.Reports.{Puts}
use Rattle.script_main.proofs.report.put_replies.Given as goal

abbrev pub invariant-loop-reply : goal.invariant-loop-reply
invariant-loop-reply g l = record {
  ready : g.W.Sink.can_write l.writer;
  put : Puts (Ok tt) (flat_map (reply_line l.caller) (map answer_of (take l.reply-index l.replies))) l.fn.waiting.items l.waiting.items
      (g.W.Sink.written l.fn.writer) (g.W.Sink.written l.writer) (g.W.Sink.failures l.fn.writer) (g.W.Sink.failures l.writer);
}

use Rattle.std.proofs.Common.{◌<◌, Ok, Err, length, Result, sym, ap, ◌∙◌, ◌≡◌, subst, arith, map}
use Rattle.std.specs.List.{flat_map}
use Rattle.std.proofs.lemmas.Result.{err_from_is_err_and}
use Rattle.cvl_text.specs.Answers.{answer_of}
use Rattle.script_lines.specs.declared.fault.RunFault.{RunFault}
use Rattle.script_lines.specs.declared.fault.RunFault.TheVariants as stops
use Rattle.script_lines.specs.Scripts.{reply_line}
use Rattle.script_main.specs.Reports.{Puts}
use Rattle.script_main.proofs.PutLemmas.{Puts-none, Puts-nothing, Puts-behind}
use Rattle.script_main.proofs.ListingLemmas.{Puts-item, Puts-item_stop}
use Rattle.script_main.proofs.report.put_replies.Goals as goal

pub loop-reply-init : goal.loop-reply-init
loop-reply-init g c = record { ready = c.requires; put = Puts-none c.args.waiting.now.items (g.W.Sink.written c.args.writer.now) (g.W.Sink.failures c.args.writer.now) }

pub returns-in_default-clause-put : goal.returns-in_default-clause-put
returns-in_default-clause-put g c =
    let waits = c.loop-reply.waiting.items in
    let reply = c.reply-item.result in
    let old = g.W.Sink.written c.args.writer.now in
    let mid = g.W.Sink.written c.loop-reply.writer in
    let before = g.W.Sink.failures c.args.writer.now in
    let between = g.W.Sink.failures c.loop-reply.writer in
    let within : c.loop-reply.reply-index < length c.args.replies.now = omega arith in
    Puts-item_stop (reply_line c.args.caller) answer_of c.args.replies.now c.loop-reply.reply-index reply within c.reply-item.is c.args.waiting.now.items waits waits old mid mid before between between stops.OutOfMemory
    c.loop-reply.invariant.put (Puts-nothing (reply_line c.args.caller (answer_of reply)) waits waits mid between)

pub returns-in_err-write_much-clause-put : goal.returns-in_err-write_much-clause-put
returns-in_err-write_much-clause-put g c =
    let waits = c.loop-reply.waiting.items in
    let left = c.write_much.new.waiting.items in
    let reply = c.reply-item.result in
    let line = reply_line c.args.caller (answer_of reply) in
    let old = g.W.Sink.written c.args.writer.now in
    let mid = g.W.Sink.written c.loop-reply.writer in
    let new = g.W.Sink.written c.write_much.new.writer in
    let before = g.W.Sink.failures c.args.writer.now in
    let between = g.W.Sink.failures c.loop-reply.writer in
    let after = g.W.Sink.failures c.write_much.new.writer in
    let within : c.loop-reply.reply-index < length c.args.replies.now = omega arith in
    let fault = c.in_err-write_much.field-0.0 in
    let given = err_from_is_err_and c.from_residual.result c.from_residual.ensures.1 in
    let is : c.from_residual.result ≡ Err fault = given.1 ∙ ap (λ (f : RunFault). Err f) given.2 in
    subst (λ (r : Result (Unit {0}) RunFault). Puts r (flat_map (reply_line c.args.caller) (map answer_of c.args.replies.now)) c.args.waiting.now.items left old new before after) (sym is)
    (Puts-item_stop (reply_line c.args.caller) answer_of c.args.replies.now c.loop-reply.reply-index reply within c.reply-item.is c.args.waiting.now.items waits left old mid new before between after fault
    c.loop-reply.invariant.put (Puts-behind (Err fault) line waits c.append_line.new.out.items left mid new between after c.in-Ok.ensures.ok c.in_err-write_much.ensures.put))

pub loop-reply-preserved : goal.loop-reply-preserved
loop-reply-preserved g c =
    let waits = c.loop-reply.waiting.items in
    let left = c.write_much.new.waiting.items in
    let reply = c.reply-item.result in
    let line = reply_line c.args.caller (answer_of reply) in
    let old = g.W.Sink.written c.args.writer.now in
    let mid = g.W.Sink.written c.loop-reply.writer in
    let new = g.W.Sink.written c.write_much.new.writer in
    let before = g.W.Sink.failures c.args.writer.now in
    let between = g.W.Sink.failures c.loop-reply.writer in
    let after = g.W.Sink.failures c.write_much.new.writer in
    let within : c.loop-reply.reply-index < length c.args.replies.now = omega arith in
    record {
      ready = c.in_ok-write_much.ensures.ready;
      put = Puts-item (reply_line c.args.caller) answer_of c.args.replies.now c.loop-reply.reply-index reply within c.reply-item.is c.args.waiting.now.items waits left old mid new before between after
          c.loop-reply.invariant.put (Puts-behind (Ok tt) line waits c.append_line.new.out.items left mid new between after c.in-Ok.ensures.ok c.in_ok-write_much.ensures.put);
    }

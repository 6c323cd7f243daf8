use Rattle.std.proofs.Common.{Ok, Err, List, map, subst}
use Rattle.std.specs.Global.{Global}
use Rattle.std.specs.Prelude.{Vec}
use Rattle.cvl_text.specs.declared.reply.Reply.{Reply}
use Rattle.cvl_text.specs.Answers.{answer_of}
use Rattle.vector_memory.specs.States.{State}
use Rattle.call_history.specs.Books.{memory_of}
use Rattle.script_main.specs.Reports.{Puts, answers_of, replies_text, memory_text}
use Rattle.script_lines.proofs.FaultLemmas.{on-err}
use Rattle.script_main.proofs.ReportLemmas.{report-stop_replies, report-stop_memory, report-stop_audit, report-written, report-begun}
use Rattle.script_main.proofs.report.write_report.Goals as goal

pub returns-in_err-put_all_replies-clause-begun : goal.returns-in_err-put_all_replies-clause-begun
returns-in_err-put_all_replies-clause-begun g c =
    let settled = c.args.settled.now in
    let waiting = c.new-waiting.result.items in
    let left = c.put_all_replies.new.waiting.items in
    let old = g.W.Sink.written c.args.writer.now in
    let mid = g.W.Sink.written c.put_all_replies.new.writer in
    let before = g.W.Sink.failures c.args.writer.now in
    let between = g.W.Sink.failures c.put_all_replies.new.writer in
    let fault = c.in_err-put_all_replies.field-0.0 in
    let put : Puts (Err fault) (replies_text 0 (answers_of settled.replies)) waiting left old mid before between =
    subst (λ (rs : List (Vec Reply Global)). Puts (Err fault) (replies_text 0 (map (λ (own : Vec Reply Global). map answer_of own.items) rs)) waiting left old mid before between) c.deref.ensures.value c.in_err-put_all_replies.ensures.put in
    on-err c.from_residual.result (report-stop_replies (answers_of settled.replies) settled.book waiting left c.new-waiting.ensures.items old mid before between fault left put)

pub returns-in_err-put_memory-clause-begun : goal.returns-in_err-put_memory-clause-begun
returns-in_err-put_memory-clause-begun g c =
    let settled = c.args.settled.now in
    let waiting = c.new-waiting.result.items in
    let waits = c.put_all_replies.new.waiting.items in
    let left = c.put_memory.new.waiting.items in
    let old = g.W.Sink.written c.args.writer.now in
    let mid = g.W.Sink.written c.put_all_replies.new.writer in
    let late = g.W.Sink.written c.put_memory.new.writer in
    let before = g.W.Sink.failures c.args.writer.now in
    let between = g.W.Sink.failures c.put_all_replies.new.writer in
    let after = g.W.Sink.failures c.put_memory.new.writer in
    let fault = c.in_err-put_memory.field-0.0 in
    let put : Puts (Ok tt) (replies_text 0 (answers_of settled.replies)) waiting waits old mid before between =
    subst (λ (rs : List (Vec Reply Global)). Puts (Ok tt) (replies_text 0 (map (λ (own : Vec Reply Global). map answer_of own.items) rs)) waiting waits old mid before between) c.deref.ensures.value c.in_ok-put_all_replies.ensures.put in
    let memory : Puts (Err fault) (memory_text (memory_of settled.book).entries) waits left mid late between after =
    subst (λ (m : State). Puts (Err fault) (memory_text m.entries) waits left mid late between after) c.memory.ensures c.in_err-put_memory.ensures.put in
    on-err c.from_residual-in_err-put_memory.result
    (report-stop_memory (answers_of settled.replies) settled.book waiting waits c.new-waiting.ensures.items old mid before between put fault left late after memory)

pub returns-in_default-clause-begun : goal.returns-in_default-clause-begun
returns-in_default-clause-begun g c =
    let settled = c.args.settled.now in
    let waiting = c.new-waiting.result.items in
    let waits = c.put_all_replies.new.waiting.items in
    let left = c.put_memory.new.waiting.items in
    let old = g.W.Sink.written c.args.writer.now in
    let mid = g.W.Sink.written c.put_all_replies.new.writer in
    let late = g.W.Sink.written c.put_memory.new.writer in
    let before = g.W.Sink.failures c.args.writer.now in
    let between = g.W.Sink.failures c.put_all_replies.new.writer in
    let after = g.W.Sink.failures c.put_memory.new.writer in
    let put : Puts (Ok tt) (replies_text 0 (answers_of settled.replies)) waiting waits old mid before between =
    subst (λ (rs : List (Vec Reply Global)). Puts (Ok tt) (replies_text 0 (map (λ (own : Vec Reply Global). map answer_of own.items) rs)) waiting waits old mid before between) c.deref.ensures.value c.in_ok-put_all_replies.ensures.put in
    let memory : Puts (Ok tt) (memory_text (memory_of settled.book).entries) waits left mid late between after =
    subst (λ (m : State). Puts (Ok tt) (memory_text m.entries) waits left mid late between after) c.memory.ensures c.in_ok-put_memory.ensures.put in
    report-stop_audit (answers_of settled.replies) settled.book waiting waits c.new-waiting.ensures.items old mid before between put left late after memory

pub returns-clause-written : goal.returns-clause-written
returns-clause-written g c =
    let settled = c.args.settled.now in
    let waiting = c.new-waiting.result.items in
    let waits = c.put_all_replies.new.waiting.items in
    let left = c.put_memory.new.waiting.items in
    let old = g.W.Sink.written c.args.writer.now in
    let mid = g.W.Sink.written c.put_all_replies.new.writer in
    let late = g.W.Sink.written c.put_memory.new.writer in
    let before = g.W.Sink.failures c.args.writer.now in
    let between = g.W.Sink.failures c.put_all_replies.new.writer in
    let after = g.W.Sink.failures c.put_memory.new.writer in
    let put : Puts (Ok tt) (replies_text 0 (answers_of settled.replies)) waiting waits old mid before between =
    subst (λ (rs : List (Vec Reply Global)). Puts (Ok tt) (replies_text 0 (map (λ (own : Vec Reply Global). map answer_of own.items) rs)) waiting waits old mid before between) c.deref.ensures.value c.in_ok-put_all_replies.ensures.put in
    let memory : Puts (Ok tt) (memory_text (memory_of settled.book).entries) waits left mid late between after =
    subst (λ (m : State). Puts (Ok tt) (memory_text m.entries) waits left mid late between after) c.memory.ensures c.in_ok-put_memory.ensures.put in
    report-written (answers_of settled.replies) settled.book waiting waits c.new-waiting.ensures.items old mid before between put left late after memory
    c.write_waiting.result c.put_audit.new.waiting.items (g.W.Sink.written c.write_waiting.new.writer) (g.W.Sink.failures c.write_waiting.new.writer) c.in-Ok.ensures c.write_waiting.ensures.put

pub returns-clause-begun : goal.returns-clause-begun
returns-clause-begun g c =
    let settled = c.args.settled.now in
    let waiting = c.new-waiting.result.items in
    let waits = c.put_all_replies.new.waiting.items in
    let left = c.put_memory.new.waiting.items in
    let old = g.W.Sink.written c.args.writer.now in
    let mid = g.W.Sink.written c.put_all_replies.new.writer in
    let late = g.W.Sink.written c.put_memory.new.writer in
    let before = g.W.Sink.failures c.args.writer.now in
    let between = g.W.Sink.failures c.put_all_replies.new.writer in
    let after = g.W.Sink.failures c.put_memory.new.writer in
    let put : Puts (Ok tt) (replies_text 0 (answers_of settled.replies)) waiting waits old mid before between =
    subst (λ (rs : List (Vec Reply Global)). Puts (Ok tt) (replies_text 0 (map (λ (own : Vec Reply Global). map answer_of own.items) rs)) waiting waits old mid before between) c.deref.ensures.value c.in_ok-put_all_replies.ensures.put in
    let memory : Puts (Ok tt) (memory_text (memory_of settled.book).entries) waits left mid late between after =
    subst (λ (m : State). Puts (Ok tt) (memory_text m.entries) waits left mid late between after) c.memory.ensures c.in_ok-put_memory.ensures.put in
    report-begun (answers_of settled.replies) settled.book waiting waits c.new-waiting.ensures.items old mid before between put left late after memory
    c.write_waiting.result c.put_audit.new.waiting.items (g.W.Sink.written c.write_waiting.new.writer) (g.W.Sink.failures c.write_waiting.new.writer) c.in-Ok.ensures c.write_waiting.ensures.put

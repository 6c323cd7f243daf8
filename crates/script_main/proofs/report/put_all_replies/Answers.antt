use Rattle.std.proofs.Common.{[], ◌<◌, Err, List, ℕ, length, Result, get_or, sym, ap, ◌∙◌, ◌≡◌, subst, arith, map}
use Rattle.std.proofs.lemmas.List.{get_or-map, length-map}
use Rattle.std.proofs.lemmas.Result.{err_from_is_err_and}
use Rattle.std.specs.Global.{Global}
use Rattle.std.specs.Prelude.{Vec}
use Rattle.cvl_text.specs.declared.reply.Reply.{Reply}
use Rattle.cvl_text.specs.Answers.{answer_of}
use Rattle.script_lines.specs.declared.fault.RunFault.{RunFault}
use Rattle.script_main.specs.Reports.{Puts, replies_text}
use Rattle.script_main.proofs.PutLemmas.{Puts-none}
use Rattle.script_main.proofs.ListingLemmas.{Puts-caller, Puts-caller_stop}
use Rattle.script_main.proofs.report.put_all_replies.Goals as goal

-- the replies to a caller, among those to all
own-at : (replies : List (Vec Reply Global)) (i : ℕ) (own : Vec Reply Global) (items : List Reply) → i < length replies → own ≡ get_or replies i own → items ≡ own.items
    → map answer_of items ≡ get_or (map (λ (v : Vec Reply Global). map answer_of v.items) replies) i []
own-at replies i own items within is same =
    ap (map answer_of) same ∙ ap (λ (v : Vec Reply Global). map answer_of v.items) is ∙ sym (get_or-map (λ (v : Vec Reply Global). map answer_of v.items) replies i own [] within)

pub loop-caller-init : goal.loop-caller-init
loop-caller-init g c = record { ready = c.requires; put = Puts-none c.args.waiting.now.items (g.W.Sink.written c.args.writer.now) (g.W.Sink.failures c.args.writer.now) }

pub returns-in_err-put_replies-clause-put : goal.returns-in_err-put_replies-clause-put
returns-in_err-put_replies-clause-put g c =
    let replies = c.args.replies.now in
    let answers = map (λ (v : Vec Reply Global). map answer_of v.items) replies in
    let i = c.loop-caller.caller in
    let waits = c.loop-caller.waiting.items in
    let left = c.put_replies.new.waiting.items in
    let old = g.W.Sink.written c.args.writer.now in
    let mid = g.W.Sink.written c.loop-caller.writer in
    let new = g.W.Sink.written c.put_replies.new.writer in
    let before = g.W.Sink.failures c.args.writer.now in
    let between = g.W.Sink.failures c.loop-caller.writer in
    let after = g.W.Sink.failures c.put_replies.new.writer in
    let within : i < length replies = omega arith in
    let own = own-at replies i c.index-replies-caller.result c.deref.result.now within c.index-replies-caller.is c.deref.ensures.value in
    let fault = c.in_err-put_replies.field-0.0 in
    let given = err_from_is_err_and c.from_residual.result c.from_residual.ensures.1 in
    let is : c.from_residual.result ≡ Err fault = given.1 ∙ ap (λ (f : RunFault). Err f) given.2 in
    subst (λ (r : Result (Unit {0}) RunFault). Puts r (replies_text 0 answers) c.args.waiting.now.items left old new before after) (sym is)
    (Puts-caller_stop answers i (map answer_of c.deref.result.now) (omega (arith, length-map replies (λ (v : Vec Reply Global). map answer_of v.items))) own c.args.waiting.now.items waits left old mid new before between after fault
    c.loop-caller.invariant.put c.in_err-put_replies.ensures.put)

pub loop-caller-preserved : goal.loop-caller-preserved
loop-caller-preserved g c =
    let replies = c.args.replies.now in
    let answers = map (λ (v : Vec Reply Global). map answer_of v.items) replies in
    let i = c.loop-caller.caller in
    let waits = c.loop-caller.waiting.items in
    let left = c.put_replies.new.waiting.items in
    let old = g.W.Sink.written c.args.writer.now in
    let mid = g.W.Sink.written c.loop-caller.writer in
    let new = g.W.Sink.written c.put_replies.new.writer in
    let before = g.W.Sink.failures c.args.writer.now in
    let between = g.W.Sink.failures c.loop-caller.writer in
    let after = g.W.Sink.failures c.put_replies.new.writer in
    let within : i < length replies = omega arith in
    let own = own-at replies i c.index-replies-caller.result c.deref.result.now within c.index-replies-caller.is c.deref.ensures.value in
    record {
      ready = c.in_ok-put_replies.ensures.ready;
      put = Puts-caller answers i (map answer_of c.deref.result.now) (omega (arith, length-map replies (λ (v : Vec Reply Global). map answer_of v.items))) own c.args.waiting.now.items waits left old mid new before between after
          c.loop-caller.invariant.put c.in_ok-put_replies.ensures.put;
    }

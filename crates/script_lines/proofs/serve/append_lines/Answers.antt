use Rattle.std.proofs.Common.{◌<◌, ◌++◌, ℕ, List, length, map, take, sym, ap, ◌∙◌, append_assoc, arith}
use Rattle.std.specs.List.{flat_map}
use Rattle.cvl_text.specs.Answers.{answer_of}
use Rattle.script_lines.specs.Scripts.{reply_line}
use Rattle.script_lines.proofs.BlockLemmas.{lines-more}
use Rattle.script_lines.proofs.FaultLemmas.{on-err}
use Rattle.script_lines.proofs.serve.append_lines.Goals as goal

pub loop-reply-preserved : goal.loop-reply-preserved
loop-reply-preserved c =
    let i = c.loop-reply.reply-index in
    let caller = c.args.caller in
    let replies = c.args.replies.now in
    let reply = c.reply-item.result in
    let line = reply_line caller (answer_of reply) in
    let old = c.args.out.now.items in
    let made = flat_map (reply_line caller) (map answer_of (take i replies)) in
    let within : i < length replies = omega arith in
    c.in_ok-append_line.ensures.ok ∙ ap (λ (t : List ℕ). t ++ line) c.loop-reply.invariant ∙ append_assoc old made line
    ∙ ap (λ (t : List ℕ). old ++ t) (sym (lines-more caller replies i reply within c.reply-item.is))

pub returns-in_err-append_line-clause-err : goal.returns-in_err-append_line-clause-err
returns-in_err-append_line-clause-err c =
    let more = c.in_err-append_line.ensures.err in
    let made = flat_map (reply_line c.args.caller) (map answer_of (take c.loop-reply.reply-index c.args.replies.now)) in
    on-err c.from_residual.result (made ++ more.0, more.1 ∙ ap (λ (t : List ℕ). t ++ more.0) c.loop-reply.invariant ∙ append_assoc c.args.out.now.items made more.0)

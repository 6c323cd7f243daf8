use Rattle.std.proofs.Common.{◌≡◌, ◌++◌, List, OnOk, ap, ◌∙◌, subst, map}
use Rattle.std.specs.List.{flat_map}
use Rattle.cvl_text.specs.Answers.{Answer, answer_of}
use Rattle.script_lines.specs.Scripts.{reply_line}
use Rattle.script_lines.proofs.BlockLemmas.{block-memory, block-answers}
use Rattle.script_lines.proofs.FaultLemmas.{on-ok}
use Rattle.script_lines.proofs.serve.serve_block.Goals as goal

pub returns-in-Ok-clause-memory : goal.returns-in-Ok-clause-memory
returns-in-Ok-clause-memory g c =
    on-ok c.write_lines.result (block-memory c.args.book.now c.run_block.new.self c.args.caller c.args.calls.items c.in-Ok.ensures.bounds c.in-Ok.ensures.history)

pub returns-in-Ok-clause-text : goal.returns-in-Ok-clause-text
returns-in-Ok-clause-text g c =
    let out = c.args.out.now.items in
    let caller = c.args.caller in
    let answers = ap (map answer_of) c.deref.ensures.value ∙ block-answers c.args.book.now caller c.args.calls.items (map answer_of c.in-Ok.answer.1.items) c.in-Ok.ensures.replies in
    subst (λ (replies : List Answer). OnOk c.write_lines.result (c.write_lines.new.out.items ≡ out ++ flat_map (reply_line caller) replies)) answers c.write_lines.ensures.ok

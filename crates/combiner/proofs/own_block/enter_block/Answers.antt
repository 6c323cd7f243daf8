use Rattle.std.proofs.Common.{◌≡◌, ℕ, List, ◌++◌, Option, map, IfOk, sym, ap, subst, ◌∙◌}
use Rattle.std.proofs.lemmas.Result.{on_ok_weaker}
use Rattle.call_history.specs.declared.entry.Entry.{Entry}
use Rattle.cvl_text.specs.Answers.{answer_of}
use Rattle.call_history.specs.Blocks.{block_entries}
use Rattle.call_history.specs.History.{replay, replies_from}
use Rattle.request_slots.specs.declared.known.Pass.{Pass}
use Rattle.request_slots.specs.Views.{pass_in, pass_or, IsEntered}
use Rattle.combiner.proofs.Owning.{block_answers, block_entered, on_answer}
use Rattle.combiner.proofs.own_block.enter_block.Goals as goal

pub step_enter-requires-clause-entered : goal.step_enter-requires-clause-entered
step_enter-requires-clause-entered g c =
    let history = c.args.book.now.history in
    let calls = c.args.calls.items in
    let number = c.args.seat.now.standing.number in
    let at : c.run_block-ran.new.self.history ≡ history ++ block_entries history number calls =
    on_answer c.run_block-ran.result (sym c.if-is_ok.true ∙ c.is_ok.ensures.value) c.run_block-ran.ensures.history
    ∙ ap (λ (k : ℕ). history ++ block_entries history k calls) c.number-number.ensures in
    let line : (pass_in c.args.seat.now).line ≡ history = ap (λ (p : Option Pass). (pass_or p).line) c.requires.fresh in
    subst (λ (l : List Entry). IsEntered number l c.run_block-ran.new.self.history) (sym line) (block_entered number calls history c.run_block-ran.new.self.history at)

pub returns-then-is_ok-clause-ran : goal.returns-then-is_ok-clause-ran
returns-then-is_ok-clause-ran g c =
    let history = c.args.book.now.history in
    let calls = c.args.calls.items in
    block_answers calls c.args.seat.now c.step_enter.new.seat c.args.book.now.bounds history c.run_block-ran.new.self.history c.run_block-ran.result
    (on_ok_weaker c.run_block-ran.result (λ (ran : c.run_block-ran.new.self.history ≡ history ++ block_entries history c.number-number.result calls).
    ran ∙ ap (λ (k : ℕ). history ++ block_entries history k calls) c.number-number.ensures) c.run_block-ran.ensures.history)
    c.run_block-ran.ensures.place
    (subst (λ (k : ℕ). IfOk c.run_block-ran.result (λ a. map answer_of a.1.items ≡ replies_from (replay c.args.book.now.bounds history) (block_entries history k calls))) c.number-number.ensures c.run_block-ran.ensures.replies)
    c.requires.bounds c.requires.begins c.requires.whole c.requires.own c.step_enter.ensures.known

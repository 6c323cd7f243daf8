use Rattle.std.proofs.Common.{◌≡◌, ℕ, List, [], ◌∷◌, ◌++◌, Option, sym, ap, subst, ◌∙◌}
use Rattle.std.proofs.lemmas.Result.{on_ok_weaker}
use Rattle.call_history.specs.declared.entry.Entry.{Entry}
use Rattle.call_history.specs.Callers.{next_entry}
use Rattle.request_slots.specs.declared.known.Pass.{Pass}
use Rattle.request_slots.specs.Views.{pass_in, pass_or, IsEntered}
use Rattle.combiner.proofs.Owning.{own_entered, on_answer, own_answers}
use Rattle.combiner.proofs.own.enter.Goals as goal

pub step_enter-requires-clause-entered : goal.step_enter-requires-clause-entered
step_enter-requires-clause-entered g c =
    let ran : c.run-ran.new.self.history ≡ c.args.book.now.history ++ next_entry c.args.book.now.history c.number.result c.args.call ∷ [] =
    on_answer c.run-ran.result (sym c.if-is_ok.true ∙ c.is_ok.ensures.value) c.run-ran.ensures.history in
    let at : c.run-ran.new.self.history ≡ c.args.book.now.history ++ next_entry c.args.book.now.history c.args.seat.now.standing.number c.args.call ∷ [] =
    ran ∙ ap (λ (k : ℕ). c.args.book.now.history ++ next_entry c.args.book.now.history k c.args.call ∷ []) c.number.ensures in
    let line : (pass_in c.args.seat.now).line ≡ c.args.book.now.history = ap (λ (p : Option Pass). (pass_or p).line) c.requires.fresh in
    subst (λ (l : List Entry). IsEntered c.args.seat.now.standing.number l c.run-ran.new.self.history) (sym line) (own_entered c.args.seat.now.standing.number c.args.call c.args.book.now.history c.run-ran.new.self.history at)

pub returns-then-is_ok-clause-ran : goal.returns-then-is_ok-clause-ran
returns-then-is_ok-clause-ran g c =
    own_answers c.args.call c.args.seat.now c.step_enter.new.seat c.args.book.now.bounds c.args.book.now.history c.run-ran.new.self.history c.run-ran.result
    (on_ok_weaker c.run-ran.result (λ (ran : c.run-ran.new.self.history ≡ c.args.book.now.history ++ next_entry c.args.book.now.history c.number.result c.args.call ∷ []).
    ran ∙ ap (λ (k : ℕ). c.args.book.now.history ++ next_entry c.args.book.now.history k c.args.call ∷ []) c.number.ensures) c.run-ran.ensures.history)
    c.run-ran.ensures.place c.run-ran.ensures.reply c.requires.bounds c.requires.begins c.requires.whole c.requires.own c.step_enter.ensures.known

use Rattle.std.proofs.Common.{◌≡◌, ◌++◌, ◌∷◌, [], length, slice_index, refl, subst, sym, ap, ◌∙◌, arith}
use Rattle.call_history.specs.History.{entry_before}
use Rattle.call_history.specs.Kept.{call_of}
use Rattle.call_history.specs.Callers.{IsTicketed, calls_by}
use Rattle.call_history.proofs.CallerLemmas.{calls_by-le, ticketed-push}
use Rattle.call_history.proofs.book.enter_brief.Goals as goal

pub overflow_add-ticket : goal.overflow_add-ticket
overflow_add-ticket c =
    let few = calls_by-le c.args.caller c.args.log.now.entries in
    let known = ap (λ t. slice_index t c.args.caller) c.deref.ensures ∙ c.requires.counted c.args.caller c.requires.caller in
    omega (arith, c.len-before.ensures)

pub returns-clause-ticketed : goal.returns-clause-ticketed
returns-clause-ticketed c =
    let history = c.args.log.now.entries in
    let call = call_of c.args.kept in
    let added = entry_before c.args.caller (length (calls_by c.args.caller history)) call 0 in
    let known = ap (λ t. slice_index t c.args.caller) c.deref.ensures ∙ c.requires.counted c.args.caller c.requires.caller in
    let items : c.push_brief.new.self.entries ≡ history ++ added ∷ [] = c.push_brief.ensures.entries ∙ ap (λ n. history ++ entry_before c.args.caller n call 0 ∷ []) known in
    subst IsTicketed (sym items) (ticketed-push history added c.requires.ticketed refl)

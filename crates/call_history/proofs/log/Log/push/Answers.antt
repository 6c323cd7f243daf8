use Rattle.std.proofs.Common.{◌++◌, ◌∷◌, [], ap, ◌∙◌, subst, sym}
use Rattle.std.specs.List.{AllByRecursion}
use Rattle.call_history.specs.History.{entry_before}
use Rattle.call_history.specs.Logs.{LogState, IsKept}
use Rattle.call_history.proofs.Logged.{pushed, rows_kept}
use Rattle.call_history.proofs.log.Log.push.Goals as goal

pub invariant_of-self : goal.invariant_of-self
invariant_of-self c =
    let grows = c.keep-kept.ensures.grows in
    let there = subst (λ w. IsKept w record { caller = c.args.caller; rest = c.args.rest; ticket = c.args.ticket; kept = c.keep-kept.result }) grows.1 c.keep-kept.ensures.there in
    let all = rows_kept c.self.inside.calls.items grows.0 c.self.inside.rows.items record { caller = c.args.caller; rest = c.args.rest; ticket = c.args.ticket; kept = c.keep-kept.result } c.self.invariant there in
    subst (λ r. AllByRecursion (IsKept c.keep-kept.new.calls.items) r) (sym c.push_reserved.ensures.items) (subst (λ w. AllByRecursion (IsKept w) (c.self.inside.rows.items ++ record { caller = c.args.caller; rest = c.args.rest; ticket = c.args.ticket; kept = c.keep-kept.result } ∷ [])) (sym grows.1) all)

pub returns-clause-entries : goal.returns-clause-entries
returns-clause-entries c =
    let grows = c.keep-kept.ensures.grows in
    pushed c.self.inside.calls.items grows.0 c.keep-kept.new.calls.items c.self.inside.rows.items c.push_reserved.new.self.items record { caller = c.args.caller; rest = c.args.rest; ticket = c.args.ticket; kept = c.keep-kept.result } c.args.call grows.1 c.push_reserved.ensures.items c.self.invariant c.keep-kept.ensures.call
    ∙ ap (λ (s : LogState). s.entries ++ entry_before c.args.caller c.args.ticket c.args.call c.args.rest ∷ []) c.self.view_is

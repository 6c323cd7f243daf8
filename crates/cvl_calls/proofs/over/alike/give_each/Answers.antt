use Rattle.std.proofs.Common.{◌≡◌, ◌∙◌, [], ap, drop, map, sym}
use Rattle.std.proofs.lemmas.List.{nil_from_length}
use Rattle.cvl_calls.specs.Alike.{filled}
use Rattle.cvl_calls.proofs.AlikeOver.{filled-none}
use Rattle.cvl_calls.proofs.over.alike.give_each.Goals as goal

pub returns : goal.returns
returns c =
    let rest = c.loop-items.items-iterator.rest in
    let left = drop c.loop-items.place c.args.names.now in
    let none : rest.items ≡ [] = nil_from_length rest.items (sym rest.ok.0 ∙ c.in-None.ensures.steps.0) in
    sym (filled-none c.loop-items.memory left) ∙ ap (λ l. filled c.loop-items.memory left (map (λ v. v.items) l)) (sym none) ∙ c.loop-items.invariant.leads

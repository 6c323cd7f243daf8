use Rattle.std.proofs.Common.{◌≡◌, List, [], ◌++◌, map, sym, ap, ◌∙◌, Vec, Global}
use Rattle.std.proofs.lemmas.List.{append-nil, nil_from_length}
use Rattle.cvl_calls.specs.Outcomes.{Effect, Stores, effect_of}
use Rattle.cvl_calls.proofs.made.stores.Goals as goal

pub returns : goal.returns
returns g c =
    let V : List (Vec g.row.T.Denot Global) → List Effect = map (λ v. Stores (g.T.Stored.content v.items)) in
    let made = map effect_of c.loop-items.products.items in
    let rest = c.loop-items.items-iterator.rest in
    let none : rest.items ≡ [] = nil_from_length rest.items (sym rest.ok.0 ∙ c.in-None.ensures.steps.0) in
    sym (append-nil made) ∙ ap (λ l. made ++ V l) (sym none) ∙ c.loop-items.invariant.makes
    ∙ ap V c.into_iter-items-iterator.ensures.into_iter_gives.0

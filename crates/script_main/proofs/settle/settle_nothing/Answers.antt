use Rattle.std.proofs.Common.{rules, ◌≡◌, [], ◌∷◌, ap}
use Rattle.combiner.specs.Standing.{Standing, newcomer}
use Rattle.script_main.proofs.EndLemmas.{closes_nothing}
use Rattle.script_main.proofs.settle.settle_nothing.Goals as goal

pub returns-clause-settled : goal.returns-clause-settled
returns-clause-settled c =
    let alone : c.args.callers.items ≡ newcomer c.args.machine c.args.bounds 0 ∷ [] = c.requires.callers in
    let is : c.in-Some.closer ≡ newcomer c.args.machine c.args.bounds 0 = search rules in
    closes_nothing c.close.result c.args.machine c.args.bounds c.in-Some.closer c.new.result (ap (λ (z : Standing). z.bounds) is) c.new.ensures.items c.close.ensures.replies c.close.ensures.closed

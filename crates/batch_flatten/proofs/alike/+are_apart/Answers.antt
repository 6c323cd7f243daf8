use Rattle.std.proofs.Common.{rules, ◌≡◌, ◌∙◌, false, sym}
use Rattle.batch_flatten.proofs.AlikeLemmas.{apart-more}
use Rattle.batch_flatten.proofs.alike.+are_apart.Goals as goal

pub returns-then-not-is_read : goal.returns-then-not-is_read
returns-then-not-is_read t c = λ apart.
    let none : c.is_read.result ≡ false = search rules in
    apart-more c.args.requests.now c.in-Some.later.now c.in-Some.first.now c.in-Some.ensures.cases.0 (sym c.is_read.ensures ∙ none) (c.are_apart.ensures apart)

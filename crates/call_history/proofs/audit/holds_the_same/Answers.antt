use Rattle.std.proofs.Common.{rules, ◌≡◌, List, ap, sym, ◌∙◌, subst, length}
use Rattle.std.specs.Map.Iter.{TakesFirst, deref_pair}
use Rattle.std.proofs.lemmas.Iterator.{YieldsList, YieldsList-from_zip, same_from_all}
use Rattle.std.proofs.lemmas.Iterator.Consumers.{YieldsList-from_shown}
use borrow.Author.Tests.{tests}
use Rattle.vector_memory.specs.declared.name.Name.{Name}
use Rattle.vector_memory.specs.declared.value.Value.{Value}
use Rattle.vector_memory.specs.Contents.{Content}
use Rattle.vector_memory.specs.States.{contents}
use Rattle.call_history.specs.Shown.{shown}
use Rattle.call_history.proofs.audit.holds_the_same.Goals as goal

-- the iterator of a memory lends its entries in order
lends : (s : List (Name × Value)) (es : List (Name × Content)) → contents s ≡ es → YieldsList (TakesFirst (deref_pair {K = Name} {X = Value})) shown s es
lends s es e = subst (YieldsList (TakesFirst (deref_pair {K = Name} {X = Value})) shown s) e
    (YieldsList-from_shown (TakesFirst (deref_pair {K = Name} {X = Value})) shown contents (λ s t h. ap (λ l. length (contents l)) h.0) (λ s x t h. ap contents h) s)

pub returns-then-len : goal.returns-then-len
returns-then-len c =
    let one : contents c.zip.result.a ≡ c.args.one.now.entries = ap contents c.zip.ensures.first ∙ c.iter.ensures.rest in
    let other : contents c.zip.result.b ≡ c.args.other.now.entries = ap contents c.zip.ensures.second ∙ c.iter-then-len.ensures.rest in
    let lengths : length c.args.one.now.entries ≡ length c.args.other.now.entries = sym c.len.ensures ∙ (c.if-len.true ∙ c.len-2.ensures) in
    same_from_all c.all.new.self tt c.all.result c.args.one.now.entries c.args.other.now.entries c.all.ensures.ran
    (YieldsList-from_zip (lends c.zip.result.a c.args.one.now.entries one) (lends c.zip.result.b c.args.other.now.entries other)) lengths
    (λ x q k. search (rules, tests)) (λ x q k. search (rules, tests))

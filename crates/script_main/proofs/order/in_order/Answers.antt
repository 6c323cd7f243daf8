use Rattle.std.proofs.Common.{List, map, subst, rules}
use Rattle.std.specs.List.Sorted.{IsPermutation}
use Rattle.std.proofs.lemmas.List.Sorted.{answers_always, IsPermutation-map}
use Rattle.vector_memory.specs.declared.name.Name.{Name}
use Rattle.vector_memory.specs.Contents.{Content}
use Rattle.call_history.specs.Shown.{shown}
use Rattle.script_main.specs.Reports.{is_before}
use Rattle.script_main.proofs.OrderLemmas.{in_order-of, IsSortedBy-shown, weak-shown}
use Rattle.script_main.proofs.order.in_order.Goals as goal

pub returns : goal.returns
returns c =
    let entries = c.args.memory.now.entries in
    let before = c.in_ok-entries.entries.items in
    let after = c.sort_unstable_by.new.self.items in
    let said = c.in_ok-entries.ensures in
    let same : IsPermutation entries (map shown after) = subst (λ (es : List (Name × Content)). IsPermutation es (map shown after)) said.entries (IsPermutation-map shown before after c.sort_unstable_by.ensures.permutation) in
    in_order-of entries (map shown after) said.distinct same
    (IsSortedBy-shown after (c.sort_unstable_by.ensures.sorted (λ d e. is_before (shown d) (shown e)) weak-shown (answers_always _ _ _ (λ f a r f' k. search rules))))

use Rattle.std.proofs.Common.{rules, ◌≡◌, [], ◌∷◌, ◌++◌, subst}
use Rattle.std.specs.Prelude.{All}
use Rattle.vector_memory.specs.declared.edition.Edition.TheVariants.{One}
use Rattle.vector_memory.specs.States.{bounds_in}
use Rattle.combiner.specs.Standing.{IsNewAt}
use Rattle.combiner.proofs.AllLists.{all_split}
use Rattle.machine_tests.proofs.table.all.Goals as goal

pub returns-clause-others : goal.returns-clause-others
returns-clause-others g c =
    let made = c.expect-shared.result in
    let each : All (IsNewAt made.0 (bounds_in One 100)) made.1.items = search rules in
    let items : made.1.items ≡ c.pop.new.self.items ++ c.expect-last.result ∷ [] = search rules in
    let front = (all_split (IsNewAt made.0 (bounds_in One 100)) c.pop.new.self.items c.expect-last.result (subst (All (IsNewAt made.0 (bounds_in One 100))) items each)).0 in
    λ k d lt. (front k d lt).machine_is

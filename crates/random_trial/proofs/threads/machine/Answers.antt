use Rattle.std.proofs.Common.{rules, ◌≡◌, [], ◌∷◌, ◌++◌, subst}
use Rattle.std.specs.Prelude.{All}
use Rattle.vector_memory.specs.States.{bounds_in}
use Rattle.combiner.specs.Standing.{IsNewAt}
use Rattle.combiner.proofs.AllLists.{all_split}
use Rattle.random_trial.proofs.threads.machine.Goals as goal

pub returns-clause-workers : goal.returns-clause-workers
returns-clause-workers c =
    let shared = c.in_ok-shared.shared in
    let each : All (IsNewAt shared (bounds_in c.args.edition c.args.room)) c.in_ok-shared.callers.items = search rules in
    let items : c.in_ok-shared.callers.items ≡ c.pop.new.self.items ++ c.in_ok-last.last ∷ [] = search rules in
    let front = (all_split (IsNewAt shared (bounds_in c.args.edition c.args.room)) c.pop.new.self.items c.in_ok-last.last (subst (All (IsNewAt shared (bounds_in c.args.edition c.args.room))) items each)).0 in
    λ k d lt. ((front k d lt).machine_is, search rules)

use Rattle.std.proofs.Common.{rules, ◌≡◌, [], ◌∷◌, ◌++◌, subst, sym}
use Rattle.std.specs.Prelude.{All}
use Rattle.std.specs.Vec.Iter.{into_iter_items}
use Rattle.combiner.proofs.AllLists.{all_push, all_rest}
use Rattle.machine_tests.proofs.batches.leave_all.Goals as goal

pub loop-caller-preserved : goal.loop-caller-preserved
loop-caller-preserved g c =
    let items : into_iter_items c.loop-caller.caller-iterator ≡ c.in-Some.caller ∷ into_iter_items c.next.new.self = search rules in
    let pushed : c.push.new.self.items ≡ c.loop-caller.left.items ++ c.posts.new.caller ∷ [] = search rules in (
      subst (All (λ r. r.machine ≡ c.args.shared.now)) (sym pushed) (all_push (λ r. r.machine ≡ c.args.shared.now) c.loop-caller.left.items c.posts.new.caller c.loop-caller.invariant.0 c.posts.ensures),
      all_rest (λ r. r.machine ≡ c.args.shared.now) c.in-Some.caller (into_iter_items c.next.new.self) (subst (All (λ r. r.machine ≡ c.args.shared.now)) items c.loop-caller.invariant.1),
    )

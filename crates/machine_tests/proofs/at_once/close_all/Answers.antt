use Rattle.std.proofs.Common.{rules, ◌≡◌, [], ◌∷◌, ◌++◌, subst}
use Rattle.std.specs.Prelude.{All}
use Rattle.std.specs.Vec.Iter.{into_iter_items}
use Rattle.combiner.proofs.AllLists.{all_rest, all_split}
use Rattle.machine_tests.proofs.at_once.close_all.Goals as goal

pub loop-caller-init : goal.loop-caller-init
loop-caller-init g c =
    let items : c.args.done.items ≡ c.pop.new.self.items ++ c.expect-last.result ∷ [] = search rules in
    let both = all_split (λ r. r.machine ≡ c.args.shared) c.pop.new.self.items c.expect-last.result (subst (All (λ r. r.machine ≡ c.args.shared)) items c.requires) in
    (both.1, subst (All (λ r. r.machine ≡ c.args.shared)) (search rules) both.0)

pub loop-caller-preserved : goal.loop-caller-preserved
loop-caller-preserved g c =
    let items : into_iter_items c.loop-caller.caller-iterator ≡ c.in-Some.caller ∷ into_iter_items c.next.new.self = search rules in
    (c.meet.ensures.other_machine, all_rest (λ r. r.machine ≡ c.args.shared) c.in-Some.caller (into_iter_items c.next.new.self) (subst (All (λ r. r.machine ≡ c.args.shared)) items c.loop-caller.invariant.1))

use Rattle.std.proofs.Common.{rules, ◌≡◌, ◌∷◌}
use Rattle.std.specs.Vec.Iter.{into_iter_items}
use Rattle.cvl_port.proofs.PortLemmas.{made_next, placed_next, fresh_next}
use Rattle.cvl_port.proofs.opening.port_all.Goals as goal

pub loop-caller-preserved : goal.loop-caller-preserved
loop-caller-preserved c =
    let items : into_iter_items c.loop-caller.caller-iterator ≡ c.in-Some.caller ∷ into_iter_items c.next.new.self = search rules in
    record {
      placed = placed_next _ _ _ _ items c.loop-caller.invariant.placed;
      made = made_next _ _ _ _ _ _ _ items c.fresh.ensures.caller c.in-Ok-push.ensures.items c.loop-caller.invariant.made;
      fresh = fresh_next _ _ _ c.in-Ok-push.ensures.items c.loop-caller.invariant.fresh c.fresh.ensures.fresh;
    }

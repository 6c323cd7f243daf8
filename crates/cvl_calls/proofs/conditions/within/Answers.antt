use Rattle.std.proofs.Common.{Bool, sym, ap, ◌∙◌}
use Rattle.cvl_text.specs.declared.fault.Fault.TheVariants.{BadIndex}
use Rattle.cvl_calls.specs.Outcomes.{check}
use Rattle.cvl_calls.proofs.Tested.{places-tested}
use Rattle.cvl_calls.proofs.conditions.within.Goals as goal

pub returns-then-are_places_by-clause-fault : goal.returns-then-are_places_by-clause-fault
returns-then-are_places_by-clause-fault g c =
    ap (λ (b : Bool). check b BadIndex) (sym c.if-are_places_by.true ∙ places-tested c.are_places_by.result c.args.items c.args.places.now c.are_places_by.ensures)

pub returns-else-are_places_by-clause-fault : goal.returns-else-are_places_by-clause-fault
returns-else-are_places_by-clause-fault g c =
    ap (λ (b : Bool). check b BadIndex) (sym c.if-are_places_by.false ∙ places-tested c.are_places_by.result c.args.items c.args.places.now c.are_places_by.ensures)

use Rattle.std.proofs.Common.{Bool, sym, ap, ◌∙◌}
use Rattle.cvl_text.specs.declared.fault.Fault.TheVariants.{BadIndex}
use Rattle.cvl_calls.specs.Outcomes.{check}
use Rattle.cvl_calls.proofs.Tested.{lies_within-tested}
use Rattle.cvl_calls.proofs.conditions.lies_within.Goals as goal

pub returns-then-in_range_by-clause-fault : goal.returns-then-in_range_by-clause-fault
returns-then-in_range_by-clause-fault g c =
    ap (λ (b : Bool). check b BadIndex) (sym c.if-in_range_by.true ∙ lies_within-tested c.in_range_by.result c.args.source.now c.args.by.now c.args.places.now c.requires.counts c.in_range_by.ensures)

pub returns-else-in_range_by-clause-fault : goal.returns-else-in_range_by-clause-fault
returns-else-in_range_by-clause-fault g c =
    ap (λ (b : Bool). check b BadIndex) (sym c.if-in_range_by.false ∙ lies_within-tested c.in_range_by.result c.args.source.now c.args.by.now c.args.places.now c.requires.counts c.in_range_by.ensures)

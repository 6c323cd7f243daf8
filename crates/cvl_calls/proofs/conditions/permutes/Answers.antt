use Rattle.std.proofs.Common.{Bool, sym, ap, ◌∙◌}
use Rattle.cvl_text.specs.declared.fault.Fault.TheVariants.{BadIndex}
use Rattle.cvl_calls.specs.Outcomes.{check}
use Rattle.cvl_calls.proofs.Tested.{permutes-tested}
use Rattle.cvl_calls.proofs.conditions.permutes.Goals as goal

pub returns-then-each-clause-fault : goal.returns-then-each-clause-fault
returns-then-each-clause-fault g c =
    ap (λ (b : Bool). check b BadIndex) (sym (permutes-tested c.in_ok-each.each c.args.segments.now c.args.places.now c.in_ok-each.ensures) ∙ c.if-each.true)

pub returns-else-each-clause-fault : goal.returns-else-each-clause-fault
returns-else-each-clause-fault g c =
    ap (λ (b : Bool). check b BadIndex) (sym (permutes-tested c.in_ok-each.each c.args.segments.now c.args.places.now c.in_ok-each.ensures) ∙ c.if-each.false)

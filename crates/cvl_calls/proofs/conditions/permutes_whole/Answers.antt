use Rattle.std.proofs.Common.{Bool, sym, ap, ◌∙◌}
use Rattle.cvl_text.specs.declared.fault.Fault.TheVariants.{BadIndex}
use Rattle.cvl_calls.specs.Outcomes.{check}
use Rattle.cvl_calls.proofs.Tested.{once-tested}
use Rattle.cvl_calls.proofs.conditions.permutes_whole.Goals as goal

pub returns-then-each-clause-fault : goal.returns-then-each-clause-fault
returns-then-each-clause-fault g c =
    ap (λ (b : Bool). check b BadIndex) (sym (once-tested c.in_ok-each.each c.args.places.now c.in_ok-each.ensures) ∙ c.if-each.true)

pub returns-else-each-clause-fault : goal.returns-else-each-clause-fault
returns-else-each-clause-fault g c =
    ap (λ (b : Bool). check b BadIndex) (sym (once-tested c.in_ok-each.each c.args.places.now c.in_ok-each.ensures) ∙ c.if-each.false)

pub returns-then-each-clause-holds : goal.returns-then-each-clause-holds
returns-then-each-clause-holds g c = c.in_ok-each.ensures.0 c.if-each.true

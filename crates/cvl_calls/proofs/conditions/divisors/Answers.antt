use Rattle.std.proofs.Common.{Bool, sym, ap, ◌∙◌}
use Rattle.cvl_text.specs.declared.fault.Fault.TheVariants.{ZeroDivisor}
use Rattle.cvl_calls.specs.Outcomes.{check}
use Rattle.cvl_calls.proofs.Tested.{divisors-tested}
use Rattle.cvl_calls.proofs.conditions.divisors.Goals as goal

pub returns-then-divisors_ok-clause-fault : goal.returns-then-divisors_ok-clause-fault
returns-then-divisors_ok-clause-fault c =
    ap (λ (b : Bool). check b ZeroDivisor) (sym c.if-divisors_ok.true ∙ divisors-tested c.divisors_ok.result c.args.ys.now c.divisors_ok.ensures)

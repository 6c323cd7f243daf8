use Rattle.std.proofs.Common.{Bool, sym, ap, ◌∙◌}
use Rattle.cvl_text.specs.declared.fault.Fault.TheVariants.{BadShift}
use Rattle.cvl_calls.specs.Outcomes.{check}
use Rattle.cvl_calls.proofs.Tested.{shifts-tested}
use Rattle.cvl_calls.proofs.conditions.shifts.Goals as goal

pub returns-then-shifts_ok-clause-fault : goal.returns-then-shifts_ok-clause-fault
returns-then-shifts_ok-clause-fault c =
    ap (λ (b : Bool). check b BadShift) (sym c.if-shifts_ok.true ∙ shifts-tested c.shifts_ok.result c.args.ys.now c.shifts_ok.ensures)

use Rattle.std.proofs.Common.{ap, inl, inr, subst, sym}
use Rattle.combiner.specs.declared.caller.Caller.TheInside.{Inside}
use Rattle.combiner.specs.Own.{MayHaveMet}
use Rattle.combiner.specs.Says.{MeetsAnother}
use Rattle.combiner.specs.Standing.{Standing, standing}
use Rattle.combiner.proofs.shared.Shared.begin.Goals.{then-caller+in_default, else-caller}
use Rattle.combiner.proofs.shared.Shared.begin.Goals as goal

pub returns-clause-begun : goal.returns-clause-begun
returns-clause-begun g c =
    let first = standing c.caller.inside.seat in
    let tried = standing c.if-caller.caller-inside.seat in
    let met : MayHaveMet first tried = elim c.if-caller.branch [
      | then-caller+in_default w ↦ inr (subst (MeetsAnother first) (sym (ap (λ (i : Inside). standing i.seat) w.caller-inside-is)) w.in_default.ensures.lost)
      | else-caller w ↦ inl (ap (λ (i : Inside). standing i.seat) w.caller-inside-is)
    ] in
    (tried, subst (λ (z : Standing). MayHaveMet z tried) c.caller.view_is met, c.leave_call.ensures.left)

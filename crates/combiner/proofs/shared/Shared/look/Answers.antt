use Rattle.std.proofs.Common.{◌≡◌, ℕ, ◌<◌, ◌∙◌, sym, ap, subst, inl}
use Rattle.request_slots.specs.declared.known.Known.{Known}
use Rattle.combiner.specs.Standing.{Machine, Standing, standing, IsIdle, IsOfCallers, callers_of}
use Rattle.combiner.proofs.Alone.{alone_counts}
use Rattle.combiner.proofs.shared.Shared.look.Goals as goal

pub returns-clause-alone : goal.returns-clause-alone
returns-clause-alone c alone idle =
    let c' : Standing = standing c.step_look.new.seat in
    let known = c.step_look.ensures.known in
    let same : c.caller.inside.seat.standing.machine ≡ c.self.inside.slots = ap (λ (d : Standing). d.machine) c.caller.view_is ∙ (c.requires ∙ sym c.self.view_is) in
    let inside = subst (λ (m : Machine). c.caller.inside.seat.standing.number < callers_of m) same c.caller.invariant.inside in
    let idle' : IsIdle c' = ap (λ (k : Known). k.standing.phase) known ∙ (ap (λ (d : Standing). d.phase) c.caller.view_is ∙ idle) in
    c.step_look.ensures.length
    ∙ alone_counts c.self.inside.slots c' c'.seen (ap callers_of c.self.view_is ∙ alone) (subst (λ (k : ℕ). k < callers_of c.self.inside.slots) (sym (ap (λ (k : Known). k.standing.number) known)) inside) idle'
    (inl (c.step_look.ensures.rests idle').0) (subst (λ (m : Machine). IsOfCallers (callers_of m) c'.seen) c.step_look.ensures.place c.step_look.ensures.no_strangers)

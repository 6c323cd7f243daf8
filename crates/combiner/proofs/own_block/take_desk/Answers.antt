use Rattle.std.proofs.Common.{◌≡◌, true, sym, ap, ◌∙◌}
use Rattle.request_slots.specs.declared.known.Known.{Known}
use Rattle.combiner.specs.Standing.{Standing}
use Rattle.combiner.specs.Own.{HasTaken, HasWaited}
use Rattle.combiner.proofs.own_block.take_desk.Goals as goal

-- the one that waited has it now
taken : (c d e : Standing) → HasWaited c d → e ≡ record d { held = true } → HasTaken c e
taken c d e waited is =
    let same : e.met ≡ d.met = ap (λ (s : Standing). s.met) is in
    ((waited.0.0, same ∙ waited.0.1), is ∙ ap (λ (s : Standing). record s { held = true }) waited.1 ∙ ap (λ m. record c { met = m; held = true }) (sym same))

pub returns-in-Some-step_lock-clause-taken : goal.returns-in-Some-step_lock-clause-taken
returns-in-Some-step_lock-clause-taken g c =
    taken c.args.seat.now.standing c.loop.seat.standing c.step_lock.new.seat.standing c.loop.invariant.waited
    (ap (λ (k : Known). k.standing) c.in-Some-step_lock.ensures.won)

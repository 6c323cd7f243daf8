use Rattle.std.proofs.Common.{rules, arith, ◌≡◌, ◌∙◌, sym, ap, subst}
use Rattle.request_slots.specs.declared.known.Known.{Known}
use Rattle.request_slots.specs.Views.{known_of, pass_in, HasDesk}
use Rattle.request_slots.proofs.Unlocking.{unlocks}
use Rattle.request_slots.proofs.Sitting.{sits_at, first_word}
use Rattle.request_slots.proofs.slots.Slots.step_unlock.Goals as goal

pub store-requires : goal.store-requires
store-requires c = let seated = c.seat.invariant in
    let same = sits_at seated c.seat.view_is c.requires.place c.self.view_is in
    let known : known_of c.seat.inside.seat.me.0 ≡ c.args.seat.now = c.seat.view_is in
    let desk : HasDesk (known_of c.seat.inside.seat.me.0) = subst HasDesk (sym known) c.requires.desk in
    let two = first_word _ _ _ same seated.wide seated.inside in (
      search rules,
      omega arith,
      unlocks _ _ _ c.seat.inside.seat.me _ c.args.desk c.exchange.ensures.3 seated.is_caller desk
          (ap (λ (k : Known). (pass_in k).taken) known ∙ c.requires.all_told) (c.requires.line ∙ ap (λ (k : Known). (pass_in k).line) (sym known))
          (c.requires.bounds ∙ ap (λ (k : Known). k.standing.bounds) (sym known)) (search rules),
    )

use Rattle.std.proofs.Common.{◌≡◌, ℕ, Some, ◌∙◌, sym, ap, subst, length}
use Rattle.atomic_table.specs.Table.{Allows, step}
use Rattle.call_history.specs.Blocks.{Whole}
use Rattle.request_slots.specs.Stages.{length_word}
use Rattle.request_slots.specs.declared.known.Known.{Known}
use mathlib.Core.Option.{none}
use Rattle.request_slots.specs.Passes.{fresh_pass}
use Rattle.request_slots.specs.Lawful.{Lawful}
use Rattle.request_slots.specs.Standing.{IsIdle}
use Rattle.request_slots.specs.Views.{known_of, pass_in, IsEntered}
use Rattle.request_slots.specs.Events.{Enters}
use Rattle.request_slots.proofs.Entering.{enters_line}
use Rattle.request_slots.proofs.Sitting.{sits_at, first_word}
use Rattle.request_slots.proofs.slots.Slots.enter_as.Goals as goal

pub store-requires : goal.store-requires
store-requires g c = let seated = c.seat.invariant in
    let same = sits_at seated c.seat.view_is c.requires.place c.self.view_is in
    let known : known_of c.seat.inside.seat.me.0 ≡ c.args.seat.now = c.seat.view_is in (
      same,
      first_word _ _ _ same seated.wide seated.inside,
      subst (λ (n : ℕ). Allows (Lawful c.self.inside.table.shared.key) c.self.inside.table.shared.table_id.slots c.seat.inside.seat.id c.seat.inside.seat.me length_word (λ _. n) (λ _. Enters g.B.Batch.line (step c.self.inside.table.shared.table_id.slots length_word n 0 none) c.seat.inside.seat.me n))
          (ap length (sym c.requires.line) ∙ sym c.len-length.ensures.len)
          (enters_line c.self.inside.table.shared.key c.self.inside.table.shared.table_id.slots c.seat.inside.seat.id c.seat.inside.seat.me g.B.Batch.line seated.is_caller
          (subst (λ (k : Known). IsIdle k.standing) (sym known) c.requires.idle)
          (subst (λ (k : Known). k.pass ≡ Some (fresh_pass (pass_in k).line)) (sym known) c.requires.fresh)
          (subst (λ (k : Known). IsEntered k.standing.number (pass_in k).line g.B.Batch.line) (sym known) c.requires.entered)
          (subst Whole c.requires.line c.len-length.ensures.whole)),
    )

use Rattle.std.proofs.Common.{◌≡◌, ℕ, ◌+◌, ◌<◌, ◌∙◌, sym, ap, subst, length}
use Rattle.atomic_table.specs.Seated.{TableId}
use Rattle.atomic_table.specs.Table.{Allows, step}
use Rattle.call_history.specs.Blocks.{Whole}
use Rattle.call_history.specs.Fits.{Fits}
use Rattle.request_slots.specs.Stages.{length_word}
use Rattle.request_slots.specs.declared.known.Known.{Known}
use mathlib.Core.Option.{none}
use Rattle.request_slots.specs.Passes.{is_in}
use Rattle.request_slots.specs.Lawful.{Lawful}
use Rattle.request_slots.specs.Views.{known_of, pass_in, HasDesk}
use Rattle.request_slots.specs.Events.{Commits}
use Rattle.request_slots.proofs.Committing.{commits_line}
use Rattle.request_slots.proofs.Sitting.{sits_at, first_word}
use Rattle.request_slots.proofs.slots.Slots.commit_as.Goals as goal

pub store-requires : goal.store-requires
store-requires g c = let seated = c.seat.invariant in
    let same = sits_at seated c.seat.view_is c.requires.place c.self.view_is in
    let known : known_of c.seat.inside.seat.me.0 ≡ c.args.seat.now = c.seat.view_is in
    let slots : c.args.self.now.slots ≡ c.self.inside.table.shared.table_id.slots = ap (λ (z : TableId). z.slots) (sym c.self.view_is) in
    let desk : HasDesk (known_of c.seat.inside.seat.me.0) = subst HasDesk (sym known) c.requires.desk in (
      same,
      first_word _ _ _ same seated.wide seated.inside,
      subst (λ (n : ℕ). Allows (Lawful c.self.inside.table.shared.key) c.self.inside.table.shared.table_id.slots c.seat.inside.seat.id c.seat.inside.seat.me length_word (λ _. n) (λ _. Commits g.B.Batch.line g.B.Batch.outcomes (step c.self.inside.table.shared.table_id.slots length_word n 0 none) c.seat.inside.seat.me n))
          (ap length (sym c.requires.batch.0) ∙ sym c.len-length.ensures.len)
          (commits_line c.self.inside.table.shared.key c.self.inside.table.shared.table_id.slots c.seat.inside.seat.id c.seat.inside.seat.me g.B.Batch.line g.B.Batch.outcomes seated.is_caller desk (ap (λ (k : Known). (pass_in k).committed) known ∙ c.requires.open)
          (λ i near. ap (λ (k : Known). is_in (pass_in k).tried i) known ∙ c.requires.tried i (subst (λ (n : ℕ). i + 1 < n) (ap (λ (z : TableId). z.slots) c.self.view_is) near))
          (subst (λ (k : Known). Fits k.standing.bounds (pass_in k).line (pass_in k).taken g.B.Batch.line g.B.Batch.outcomes) (sym known) c.requires.fits)
          (subst Whole c.requires.batch.0 c.len-length.ensures.whole)),
    )

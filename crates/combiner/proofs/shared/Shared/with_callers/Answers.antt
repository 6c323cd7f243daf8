use Rattle.std.proofs.Common.{arith, rules, ◌≡◌, ℕ, map, ap, ◌∙◌}
use Rattle.vector_memory.specs.declared.bounds.Bounds.{Bounds}
use Rattle.combiner.specs.Standing.{standing, newcomers}
use Rattle.combiner.proofs.Seats.{new_seats, shown_are}
use Rattle.combiner.proofs.shared.Shared.with_callers.Goals as goal

pub seat_all-requires : goal.seat_all-requires
seat_all-requires c = new_seats c.in_ok-slots.slots _ c.args.callers _ (let size = c.in_ok-slots.ensures.size in omega arith) c.in_ok-slots.ensures.seats

pub returns-clause-callers : goal.returns-clause-callers
returns-clause-callers c =
    let bounds : c.in_ok-new.field-0.value.book.bounds ≡ c.in_ok-with_edition.field-0.bounds = search rules in
    c.in_ok-made.ensures ∙ (ap (map standing) c.in_ok-slots.ensures.seats ∙ (shown_are _ ∙ ap (λ (r : Bounds). newcomers c.in_ok-slots.slots r c.args.callers) (bounds ∙ c.in_ok-with_edition.ensures.bounds)))

use Rattle.std.proofs.Common.{rules, arith, ◌≡◌, ℕ, ◌+◌, ◌*◌, ◌<◌, ◌≤◌, not, [], ◌∙◌, refl, sym, ap, subst}
use Rattle.atomic_table.specs.Seated.{TableId}
use Rattle.request_slots.specs.Stages.{}
use Rattle.request_slots.specs.declared.known.View.{View}
use Rattle.request_slots.specs.declared.known.View.TheVariants.{Caller}
use Rattle.request_slots.specs.Standing.{Machine, callers_of, left_in, newcomer, FrontHolds}
use Rattle.request_slots.specs.Views.{untold, known_of, pass_in, next_caller}
use Rattle.request_slots.specs.Seating.{hand_of, IsMarked, IsOrderly}
use Rattle.request_slots.proofs.Hands.{hand_own}
use Rattle.request_slots.proofs.Making.{makes_from, arrives}
use Rattle.request_slots.proofs.Sitting.{caller_word, first_word}
use Rattle.request_slots.proofs.slots.Slots.make_caller_at.Goals as goal

pub split_seat-seat-requires : goal.split_seat-seat-requires
split_seat-seat-requires g c =
    let two = first_word c.args.self.now _ c.args.number (sym c.self.view_is) c.requires.size.2 c.requires.size.0 in
    (c.requires.place ∙ sym c.self.view_is, omega arith, makes_from _ c.args.bounds _ c.args.number _ (ap (λ m. m.0) c.requires.maker))

pub store-requires : goal.store-requires
store-requires g c =
    let near = c.requires.size.0 in
    let slots : c.args.self.now.slots ≡ c.self.inside.table.shared.table_id.slots = ap (λ (z : TableId). z.slots) (sym c.self.view_is) in rw c.word_at.ensures (
      search rules,
      caller_word c.args.self.now _ c.args.number (sym c.self.view_is) c.requires.size.2 c.requires.size.0,
      arrives _ _ _ _ c.args.bounds c.args.number _ (c.split_seat-seat.ensures.4 ∙ ap (λ m. (next_caller m.0, [])) c.requires.maker) (subst (λ (n : ℕ). c.args.number + 1 < n) slots near),
    )

pub invariant_of-result : goal.invariant_of-result
invariant_of-result g c =
    let machine : Machine = g.P.Place.machine in
    let now = c.store.ensures.2 c.args.bounds c.args.number (ap (λ m. m.0) c.split_seat-seat.ensures.4 ∙ ap (λ m. next_caller m.0) c.requires.maker) in
    let here = c.store.ensures.0 ∙ (c.split_seat-seat.ensures.3 ∙ c.requires.place) in
    let is : c.store.new.seat.me.0 ≡ Caller (untold (newcomer machine c.args.bounds c.args.number)) = ap (λ m. m.0) now in
    let place = sym here in
    record {
      is_caller = subst (λ (v : View). v ≡ Caller (known_of v)) (sym is) refl;
      machine_is = ap (λ (v : View). (known_of v).standing.machine) is ∙ (c.requires.machine ∙ place);
      number_is = ap (λ (v : View). (known_of v).standing.number) is;
      idle_is = ap (λ (v : View). not (left_in (known_of v).standing.phase)) (sym is);
      hand_is = ap (λ m. m.1) now ∙ (sym (hand_own c.no_marks.result (untold (newcomer machine c.args.bounds c.args.number)) refl c.no_marks.ensures) ∙ ap (λ (v : View). hand_of c.no_marks.result (known_of v)) (sym is));
      marked = subst (λ (v : View). IsMarked c.no_marks.result (pass_in (known_of v)).taken) (sym is) c.no_marks.ensures;
      wide = subst (λ (z : Machine). z.words ≡ 8 * z.slots + 8) place c.requires.size.2;
      inside = subst (λ (z : Machine). c.args.number + 1 < z.slots) place c.requires.size.0;
      few = subst (λ (z : Machine). z.slots ≤ 65) place c.requires.size.1;
      orderly = subst (λ (v : View). IsOrderly (pass_in (known_of v))) (sym is) (λ _ _. refl);
      front = subst (λ (v : View). FrontHolds (callers_of c.store.new.seat.table_id) (known_of v).standing) (sym is) ((λ _. (refl, refl)), (λ _ _. refl), tt);
    }

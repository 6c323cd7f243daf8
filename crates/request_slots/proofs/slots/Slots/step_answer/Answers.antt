use Rattle.std.proofs.Common.{rules, ◌≡◌, ℕ, ◌+◌, ◌∷◌, ◌∙◌, get_or, true, false, length, refl, sym, ap, subst}
use Rattle.std.specs.Prelude.{IsSome}
use Rattle.atomic_table.specs.Seated.{TableId}
use Rattle.atomic_table.specs.Table.{rest}
use Rattle.call_history.specs.Fits.{request_by, outcome_by}
use Rattle.request_slots.specs.declared.desk.Slot.TheVariants.{Nothing, Told}
use Rattle.request_slots.specs.declared.known.Known.{Known}
use Rattle.request_slots.specs.declared.known.View.{View}
use Rattle.request_slots.specs.declared.known.View.TheVariants.{Caller}
use Rattle.request_slots.specs.Passes.{strikes}
use Rattle.request_slots.specs.Views.{known_of, pass_in, HasDesk, passing}
use Rattle.request_slots.specs.Seating.{Hand, own_hand, turned_times}
use Rattle.request_slots.specs.Events.{Sat}
use Rattle.request_slots.proofs.Telling.{tells}
use Rattle.request_slots.proofs.RequestLists.{orderly_strikes, marks_strike, some_request}
use Rattle.request_slots.proofs.Hands.{front_is, hand_opens, hand_closes}
use Rattle.request_slots.proofs.Sitting.{sits_at, below_limit, caller_word, reseated}
use Rattle.request_slots.proofs.slots.Slots.step_answer.Goals as goal

pub exchange-requires : goal.exchange-requires
exchange-requires c = let seated = c.seat.invariant in
    let k : Known = known_of c.seat.inside.seat.me.0 in
    let known : k ≡ c.args.seat.now = c.seat.view_is in
    let desk : HasDesk k = subst HasDesk (sym known) c.requires.desk in
    let same = sits_at seated c.seat.view_is c.requires.place c.self.view_is in
    let near = below_limit c.args.i seated (same ∙ c.self.view_is) c.requires.caller in
    let marked : get_or c.seat.inside.taken c.args.i false ≡ true = seated.marked.each c.args.i near.0 ∙ subst (λ (z : Known). IsSome (request_by c.args.i (pass_in z).taken)) (sym known) c.requires.taken in
    let below = c.slots_below-before.ensures.count in (
      c.turn_times.ensures.place.0 ∙ same,
      (
        Nothing,
        rw c.slot_at.ensures (front_is _ _ _ (ap (λ m. m.1) c.turn_times.ensures.hand
            ∙ (ap (turned_times (1 + c.slots_below-before.result)) seated.hand_is ∙ hand_opens c.seat.inside.taken c.args.i _ true k desk near.1 marked (λ j. 1 + below j)))),
      ),
    )

pub store-requires : goal.store-requires
store-requires c = let seated = c.seat.invariant in
    let same = sits_at seated c.seat.view_is c.requires.place c.self.view_is in
    let known : known_of c.seat.inside.seat.me.0 ≡ c.args.seat.now = c.seat.view_is in
    let desk : HasDesk (known_of c.seat.inside.seat.me.0) = subst HasDesk (sym known) c.requires.desk in
    let slots : c.args.self.now.slots ≡ c.self.inside.table.shared.table_id.slots = ap (λ (z : TableId). z.slots) (sym c.self.view_is) in
    let near = c.requires.caller in
    let asks = some_request (request_by c.args.i (pass_in c.args.seat.now).taken) c.requires.taken in
    let before : Sat = (c.seat.inside.seat.me.0, turned_times (1 + c.slots_below-before.result) c.seat.inside.seat.me.1) in
    let put = rw c.slot_at.ensures at c.exchange.ensures.3 in let put = put ∙ ap (λ (m : Sat). let z : Sat = (m.0, (c.args.i + 1, Told c.args.outcome) ∷ rest m.1) in z) c.turn_times.ensures.hand in rw c.word_at.ensures (
      c.exchange.ensures.0 ∙ (c.turn_times.ensures.place.0 ∙ same),
      caller_word c.seat.inside.seat.table_id _ c.args.i same seated.wide (search rules),
      tells _ _ _ c.args.i asks.0 before _ c.args.outcome put seated.is_caller desk (search rules)
          (ap (λ (z : Known). (pass_in z).committed) known ∙ c.requires.committed) (ap (λ (z : Known). request_by c.args.i (pass_in z).taken) known ∙ asks.1)
          (ap (λ (z : Known). outcome_by c.args.i (pass_in z).asked (pass_in z).outcomes) known ∙ c.requires.outcome),
    )

pub invariant_of-seat : goal.invariant_of-seat
invariant_of-seat c = let seated = c.seat.invariant in
    let k : Known = known_of c.seat.inside.seat.me.0 in
    let known : k ≡ c.args.seat.now = c.seat.view_is in
    let desk : HasDesk k = subst HasDesk (sym known) c.requires.desk in
    let near = below_limit c.args.i seated (sits_at seated c.seat.view_is c.requires.place c.self.view_is ∙ c.self.view_is) c.requires.caller in
    let marked : get_or c.seat.inside.taken c.args.i false ≡ true = seated.marked.each c.args.i near.0 ∙ subst (λ (z : Known). IsSome (request_by c.args.i (pass_in z).taken)) (sym known) c.requires.taken in
    let above = c.slots_above.ensures.count in
    let own = c.own_slots-own.ensures.count ∙ ap (λ (z : Known). length (own_hand z.standing.number z.standing.phase)) (sym known) in
    let below = c.slots_below-before.ensures.count in
    let n : ℕ = c.slots_above.result + c.own_slots-own.result in
    let turned = c.turn_times.ensures.hand in
    let now = c.store.ensures.2 c.args.i c.word_at.ensures in
    let last = c.turn_times-2.ensures.hand in
    reseated c.seat.inside.seat _ _ _ _ _ _ (passing k (strikes (pass_in k) c.args.i)) seated (search rules)
    (ap (λ m. m.0) last ∙ (ap (λ m. m.0) now ∙ ap (λ (v : View). Caller (passing (known_of v) (strikes (pass_in (known_of v)) c.args.i))) (ap (λ m. m.0) c.exchange.ensures.3 ∙ ap (λ m. m.0) turned)))
    (ap (λ m. m.1) last ∙ (ap (λ m. turned_times n m.1) now ∙ (ap (λ m. turned_times n (rest m.1)) c.exchange.ensures.3 ∙ (ap (λ m. turned_times n (rest m.1)) turned
    ∙ (ap (λ (h : Hand). turned_times n (rest (turned_times (1 + c.slots_below-before.result) h))) seated.hand_is
    ∙ (ap (λ (h : Hand). turned_times n (rest h)) (hand_opens c.seat.inside.taken c.args.i _ true k desk near.1 marked (λ j. 1 + below j))
    ∙ hand_closes c.seat.inside.taken c.args.i n (passing k (strikes (pass_in k) c.args.i)) refl near.1 (λ j. above j + own j)))))))
    (marks_strike c.seat.inside.taken c.args.i (pass_in k).taken near.0 seated.marked)
    refl refl (orderly_strikes (pass_in k) c.args.i seated.orderly) seated.idle_is seated.front

pub returns-clause-place : goal.returns-clause-place
returns-clause-place c = (invariant_of-seat c).machine_is
    ∙ (c.turn_times-2.ensures.place.0 ∙ (c.store.ensures.0 ∙ (c.exchange.ensures.0 ∙ (c.turn_times.ensures.place.0 ∙ (sits_at c.seat.invariant c.seat.view_is c.requires.place c.self.view_is ∙ c.self.view_is)))))

pub returns-clause-known : goal.returns-clause-known
returns-clause-known c =
    let now = c.store.ensures.2 c.args.i c.word_at.ensures in
    ap (λ m. known_of m.0) c.turn_times-2.ensures.hand ∙ (ap (λ m. known_of m.0) now
    ∙ ap (λ (z : Known). passing z (strikes (pass_in z) c.args.i)) (ap (λ m. known_of m.0) c.exchange.ensures.3 ∙ (ap (λ m. known_of m.0) c.turn_times.ensures.hand ∙ c.seat.view_is)))

use Rattle.std.proofs.Common.{rules, ◌≡◌, ℕ, ◌+◌, ◌∷◌, ◌∙◌, get_or, false, length, refl, sym, ap, subst}
use Rattle.std.specs.Prelude.{is_some}
use Rattle.atomic_table.specs.Seated.{TableId}
use Rattle.atomic_table.specs.Table.{rest}
use Rattle.call_history.specs.Fits.{IsLawfulJob}
use Rattle.request_slots.specs.declared.desk.Slot.TheVariants.{Nothing, Asked}
use Rattle.request_slots.specs.declared.known.Known.{Known}
use Rattle.request_slots.specs.declared.known.View.{View}
use Rattle.request_slots.specs.declared.known.View.TheVariants.{Caller}
use Rattle.request_slots.specs.Passes.{is_in, takes_on, tries}
use Rattle.request_slots.specs.Views.{known_of, pass_in, HasDesk, passing}
use Rattle.request_slots.specs.Seating.{Hand, own_hand, turned_times}
use Rattle.request_slots.specs.Events.{job_in}
use Rattle.request_slots.proofs.Taking.{takes_request}
use Rattle.request_slots.proofs.RequestLists.{orderly_tries, orderly_takes, marks_take}
use Rattle.request_slots.proofs.Hands.{front_is, front_slot, hand_opens, hand_closes_again, hand_takes}
use Rattle.request_slots.proofs.Sitting.{sits_at, below_limit, caller_word, reseated}
use Rattle.request_slots.proofs.slots.Slots.step_take.Goals as goal

pub compare_exchange-requires : goal.compare_exchange-requires
compare_exchange-requires c = let seated = c.seat.invariant in
    let same = sits_at seated c.seat.view_is c.requires.place c.self.view_is in
    let here = ap (λ m. m.0) c.turn_times.ensures.hand in
    let known : known_of c.turn_times.new.seat.me.0 ≡ c.args.seat.now = ap known_of here ∙ c.seat.view_is in
    let slots : c.args.self.now.slots ≡ c.self.inside.table.shared.table_id.slots = ap (λ (z : TableId). z.slots) (sym c.self.view_is) in
    let near = c.requires.caller in rw c.word_at.ensures (
      c.turn_times.ensures.place.0 ∙ same,
      caller_word c.seat.inside.seat.table_id _ c.args.i same seated.wide (search rules),
      takes_request _ _ _ c.args.i c.turn_times.new.seat.me (subst (λ (v : View). v ≡ Caller (known_of v)) (sym here) seated.is_caller) (subst HasDesk (sym known) c.requires.desk) (search rules)
          (ap (λ (k : Known). is_in (pass_in k).tried c.args.i) known ∙ c.requires.untried),
    )

pub invariant_of-seat : goal.invariant_of-seat
invariant_of-seat c = let seated = c.seat.invariant in
    let k : Known = known_of c.seat.inside.seat.me.0 in
    let known : k ≡ c.args.seat.now = c.seat.view_is in
    let desk : HasDesk k = subst HasDesk (sym known) c.requires.desk in
    let near = below_limit c.args.i seated (sits_at seated c.seat.view_is c.requires.place c.self.view_is ∙ c.self.view_is) c.requires.caller in
    let unmarked : get_or c.seat.inside.taken c.args.i false ≡ false =
    seated.marked.each c.args.i near.0 ∙ ap is_some (seated.orderly c.args.i (ap (λ (z : Known). is_in (pass_in z).tried c.args.i) known ∙ c.requires.untried)) in
    let above = c.slots_above.ensures.count in
    let own = c.own_slots-own.ensures.count ∙ ap (λ (z : Known). length (own_hand z.standing.number z.standing.phase)) (sym known) in
    let below = c.slots_below-before.ensures.count in
    let n : ℕ = c.slots_above.result + c.own_slots-own.result in
    let turned = c.turn_times.ensures.hand in
    let now = (c.compare_exchange.ensures.2 c.args.i c.word_at.ensures).1 c.if-compare_exchange-ne-POSTED.true in
    let last = c.turn_times-then-compare_exchange-ne-POSTED.ensures.hand in
    reseated c.seat.inside.seat _ _ _ _ _ _ (passing k (tries (pass_in k) c.args.i)) seated (search rules)
    (ap (λ m. m.0) last ∙ (ap (λ m. m.0) now ∙ ap (λ (v : View). Caller (passing (known_of v) (tries (pass_in (known_of v)) c.args.i))) (ap (λ m. m.0) turned)))
    (ap (λ m. m.1) last ∙ (ap (λ m. turned_times n m.1) now ∙ (ap (λ m. turned_times n m.1) turned ∙ (ap (λ (h : Hand). turned_times n (turned_times (1 + c.slots_below-before.result) h)) seated.hand_is
    ∙ (ap (turned_times n) (hand_opens c.seat.inside.taken c.args.i _ false k desk near.1 unmarked (λ j. 1 + below j))
    ∙ hand_closes_again c.seat.inside.taken c.args.i n (passing k (tries (pass_in k) c.args.i)) refl near.1 unmarked (λ j. above j + own j))))))
    seated.marked refl refl (orderly_tries (pass_in k) c.args.i seated.orderly) seated.idle_is seated.front

pub returns-then-compare_exchange-ne-POSTED-clause-place : goal.returns-then-compare_exchange-ne-POSTED-clause-place
returns-then-compare_exchange-ne-POSTED-clause-place c =
    (invariant_of-seat c).machine_is ∙ (c.turn_times-then-compare_exchange-ne-POSTED.ensures.place.0 ∙ (c.compare_exchange.ensures.0 ∙ (c.turn_times.ensures.place.0 ∙ (sits_at c.seat.invariant c.seat.view_is c.requires.place c.self.view_is ∙ c.self.view_is))))

pub exchange-requires : goal.exchange-requires
exchange-requires c =
    let t = (c.compare_exchange.ensures.2 c.args.i c.word_at.ensures).0 c.if-compare_exchange-ne-POSTED.false in
    (search rules, (Asked t.0, rw c.slot_at.ensures (front_is _ _ _ t.2)))

pub unreachable-requires : goal.unreachable-requires
unreachable-requires c =
    let t = (c.compare_exchange.ensures.2 c.args.i c.word_at.ensures).0 c.if-compare_exchange-ne-POSTED.false in c.in_default.not-Asked t.0 (sym (ap front_slot c.exchange.ensures.2) ∙ ap front_slot t.2)

pub invariant_of-seat-2 : goal.invariant_of-seat-2
invariant_of-seat-2 c = let seated = c.seat.invariant in
    let k : Known = known_of c.seat.inside.seat.me.0 in
    let known : k ≡ c.args.seat.now = c.seat.view_is in
    let desk : HasDesk k = subst HasDesk (sym known) c.requires.desk in
    let near = below_limit c.args.i seated (sits_at seated c.seat.view_is c.requires.place c.self.view_is ∙ c.self.view_is) c.requires.caller in
    let unmarked : get_or c.seat.inside.taken c.args.i false ≡ false =
    seated.marked.each c.args.i near.0 ∙ ap is_some (seated.orderly c.args.i (ap (λ (z : Known). is_in (pass_in z).tried c.args.i) known ∙ c.requires.untried)) in
    let above = c.slots_above.ensures.count in
    let own = c.own_slots-own.ensures.count ∙ ap (λ (z : Known). length (own_hand z.standing.number z.standing.phase)) (sym known) in
    let below = c.slots_below-before.ensures.count in
    let n : ℕ = c.slots_above.result + c.own_slots-own.result in
    let turned = c.turn_times.ensures.hand in
    let t = (c.compare_exchange.ensures.2 c.args.i c.word_at.ensures).0 c.if-compare_exchange-ne-POSTED.false in
    let now = rw c.slot_at.ensures at c.exchange.ensures.3 in
    let last = c.turn_times-2.ensures.hand in
    let slot : Hand → Hand = λ (h : Hand). (c.args.i + 1, Nothing) ∷ h in
    reseated c.seat.inside.seat _ _ _ _ _ _ (passing k (takes_on (pass_in k) c.args.i t.0)) seated (search rules)
    (ap (λ m. m.0) last ∙ (ap (λ m. m.0) now ∙ (t.1 ∙ ap (λ (v : View). Caller (passing (known_of v) (takes_on (pass_in (known_of v)) c.args.i t.0))) (ap (λ m. m.0) turned))))
    (ap (λ m. m.1) last ∙ (ap (λ m. turned_times (1 + n) m.1) now ∙ (ap (λ (h : Hand). turned_times (1 + n) (slot (rest h))) t.2 ∙ (ap (λ m. turned_times (1 + n) (slot m.1)) turned
    ∙ (ap (λ (h : Hand). turned_times (1 + n) (slot (turned_times (1 + c.slots_below-before.result) h))) seated.hand_is
    ∙ (ap (λ (h : Hand). turned_times (1 + n) (slot h)) (hand_opens c.seat.inside.taken c.args.i _ false k desk near.1 unmarked (λ j. 1 + below j))
    ∙ hand_takes c.seat.inside.taken c.args.i n (passing k (takes_on (pass_in k) c.args.i t.0)) refl near.1 (λ j. above j + own j)))))))
    (marks_take c.seat.inside.taken c.args.i t.0 (pass_in k).taken near.0 seated.marked)
    refl refl (orderly_takes (pass_in k) c.args.i t.0 seated.orderly) seated.idle_is seated.front

pub returns-clause-place : goal.returns-clause-place
returns-clause-place c = (invariant_of-seat-2 c).machine_is
    ∙ (c.turn_times-2.ensures.place.0 ∙ (c.exchange.ensures.0 ∙ (c.compare_exchange.ensures.0 ∙ (c.turn_times.ensures.place.0 ∙ (sits_at c.seat.invariant c.seat.view_is c.requires.place c.self.view_is ∙ c.self.view_is)))))

pub returns-clause-lawful : goal.returns-clause-lawful
returns-clause-lawful c =
    let t = (c.compare_exchange.ensures.2 c.args.i c.word_at.ensures).0 c.if-compare_exchange-ne-POSTED.false in
    subst IsLawfulJob (sym (ap job_in (sym c.in-Asked.is ∙ (sym (ap front_slot c.exchange.ensures.2) ∙ ap front_slot t.2)))) t.3

use Rattle.std.proofs.Common.{rules, ◌≡◌, [], ◌∙◌, None, refl, sym, ap}
use Rattle.atomic_table.specs.Table.{rest}
use Rattle.request_slots.specs.declared.desk.Slot.TheVariants.{Nothing}
use Rattle.request_slots.specs.declared.known.Known.{Known}
use Rattle.request_slots.specs.declared.known.Phase.{Phase}
use Rattle.request_slots.specs.declared.known.View.TheVariants.{Caller}
use Rattle.request_slots.specs.Standing.{IsIdle}
use Rattle.request_slots.specs.Changes.{leaving_job}
use Rattle.request_slots.specs.Views.{with_standing, known_of}
use Rattle.request_slots.specs.Seating.{own_hand}
use Rattle.request_slots.specs.Events.{job_in_hand}
use Rattle.request_slots.proofs.Asking.{posts}
use Rattle.request_slots.proofs.Hands.{front_is, hand_own}
use Rattle.request_slots.proofs.Sitting.{sits_at, caller_word, reseated}
use Rattle.request_slots.proofs.slots.Slots.step_post.Goals as goal

pub exchange-requires : goal.exchange-requires
exchange-requires c = let seated = c.seat.invariant in
    let k : Known = known_of c.seat.inside.seat.me.0 in
    let no_desk : k.pass ≡ None = ap (λ (z : Known). z.pass) c.seat.view_is ∙ c.requires.no_desk in
    let idle : IsIdle k.standing = ap (λ (z : Known). z.standing.phase) c.seat.view_is ∙ c.requires.idle in (
      sits_at seated c.seat.view_is c.requires.place c.self.view_is,
      (Nothing, rw c.slot_at.ensures (front_is _ [] _ (seated.hand_is ∙ (hand_own c.seat.inside.taken k no_desk seated.marked ∙ (λ j. own_hand (seated.number_is j) (idle j)))))),
    )

pub compare_exchange-requires : goal.compare_exchange-requires
compare_exchange-requires c = let seated = c.seat.invariant in
    let same = sits_at seated c.seat.view_is c.requires.place c.self.view_is in
    let put = rw c.slot_at.ensures at c.exchange.ensures.3 in rw c.word_at.ensures (
      search rules,
      caller_word _ _ _ same seated.wide seated.inside,
      posts _ _ _ _ c.seat.inside.seat.me _ c.args.job c.requires.lawful put seated.is_caller seated.number_is
          (ap (λ (z : Known). z.standing.phase) c.seat.view_is ∙ c.requires.idle) (ap (λ (z : Known). z.pass) c.seat.view_is ∙ c.requires.no_desk),
    )

pub invariant_of-seat : goal.invariant_of-seat
invariant_of-seat c = let seated = c.seat.invariant in
    let k : Known = known_of c.seat.inside.seat.me.0 in
    let no_desk : k.pass ≡ None = ap (λ (z : Known). z.pass) c.seat.view_is ∙ c.requires.no_desk in
    let idle : IsIdle k.standing = ap (λ (z : Known). z.standing.phase) c.seat.view_is ∙ c.requires.idle in
    let left : Known = with_standing k (leaving_job k.standing c.args.job) in
    let put = rw c.slot_at.ensures at c.exchange.ensures.3 in
    let now = c.compare_exchange.ensures.2 in
    reseated c.seat.inside.seat _ _ _ _ _ _ left seated (search rules)
    (now.1 ∙ ap (λ m. Caller (with_standing (known_of m.0) (leaving_job (known_of m.0).standing (job_in_hand m.1)))) put)
    (now.2 ∙ (ap (λ m. rest m.1) put ∙ (ap rest seated.hand_is ∙ (ap rest (hand_own c.seat.inside.taken k no_desk seated.marked) ∙ (ap (λ (p : Phase). rest (own_hand k.standing.number p)) idle
    ∙ sym (hand_own c.seat.inside.taken left no_desk seated.marked))))))
    seated.marked refl refl seated.orderly refl ((λ e. absurd (cc e)), seated.front.1, seated.front.2)

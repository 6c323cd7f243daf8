use Rattle.std.proofs.Common.{rules, ◌≡◌, ◌≢◌, ◌∙◌, not, refl, sym, ap, subst, eq-eqb, ne_eqb}
use mathlib.Core.Logic.{dite}
use native.Mathlib.Decide.{ℕ_discrete}
use Rattle.atomic_table.specs.Seated.{TableId}
use Rattle.request_slots.specs.declared.known.Known.{Known}
use Rattle.request_slots.specs.Passes.{is_in, tries}
use Rattle.request_slots.specs.Views.{known_of, pass_in, HasDesk, passing}
use Rattle.request_slots.proofs.Taking.{skips_request}
use Rattle.request_slots.proofs.RequestLists.{orderly_tries}
use Rattle.request_slots.proofs.Hands.{hand_stays}
use Rattle.request_slots.proofs.Sitting.{sits_at, caller_word, reseated}
use Rattle.request_slots.proofs.slots.Slots.passes_by.Goals as goal

pub load-requires : goal.load-requires
load-requires c = let seated = c.seat.invariant in
    let same = sits_at seated c.seat.view_is c.requires.place c.self.view_is in
    let known : known_of c.seat.inside.seat.me.0 ≡ c.args.seat.now = c.seat.view_is in
    let desk : HasDesk (known_of c.seat.inside.seat.me.0) = subst HasDesk (sym known) c.requires.desk in
    let slots : c.args.self.now.slots ≡ c.self.inside.table.shared.table_id.slots = ap (λ (z : TableId). z.slots) (sym c.self.view_is) in
    let near = c.requires.caller in rw c.word_at.ensures (
      same,
      caller_word c.seat.inside.seat.table_id _ c.args.i same seated.wide (search rules),
      skips_request _ _ _ c.args.i c.seat.inside.seat.me seated.is_caller desk (search rules) (ap (λ (k : Known). is_in (pass_in k).tried c.args.i) known ∙ c.requires.untried),
    )

pub invariant_of-seat : goal.invariant_of-seat
invariant_of-seat c = let seated = c.seat.invariant in
    let k : Known = known_of c.seat.inside.seat.me.0 in
    let known : k ≡ c.args.seat.now = c.seat.view_is in
    let desk : HasDesk k = subst HasDesk (sym known) c.requires.desk in
    let then = c.load.ensures.2 c.args.i c.word_at.ensures in
    dite (ℕ_discrete c.load.result 2)
    (λ hit. let now = then.0 hit in
    reseated c.seat.inside.seat _ _ _ _ _ _ k seated c.load.ensures.0 (ap (λ m. m.0) now ∙ seated.is_caller) (ap (λ m. m.1) now ∙ seated.hand_is) seated.marked refl refl seated.orderly seated.idle_is seated.front)
    (λ miss. let now = then.1 miss in
    reseated c.seat.inside.seat _ _ _ _ _ _ (passing k (tries (pass_in k) c.args.i)) seated c.load.ensures.0 (ap (λ m. m.0) now)
    (ap (λ m. m.1) now ∙ (seated.hand_is ∙ hand_stays c.seat.inside.taken k (tries (pass_in k) c.args.i) desk)) seated.marked refl refl (orderly_tries (pass_in k) c.args.i seated.orderly) seated.idle_is seated.front)

pub returns-clause-place : goal.returns-clause-place
returns-clause-place c = (invariant_of-seat c).machine_is ∙ (c.load.ensures.0 ∙ (sits_at c.seat.invariant c.seat.view_is c.requires.place c.self.view_is ∙ c.self.view_is))

pub returns-clause-passed : goal.returns-clause-passed
returns-clause-passed c passed =
    let known : known_of c.seat.inside.seat.me.0 ≡ c.args.seat.now = c.seat.view_is in
    let miss : c.load.result ≢ 2 = λ hit. cc (ap not (eq-eqb c.load.result 2 hit), passed) in
    ap (λ m. known_of m.0) ((c.load.ensures.2 c.args.i c.word_at.ensures).1 miss) ∙ ap (λ (k : Known). passing k (tries (pass_in k) c.args.i)) known

pub returns-clause-kept : goal.returns-clause-kept
returns-clause-kept c kept =
    let hit : c.load.result ≡ 2 = dite (ℕ_discrete c.load.result 2) (λ is. is) (λ miss. cc (ap not (ne_eqb c.load.result 2 miss), kept)) in
    let now = (c.load.ensures.2 c.args.i c.word_at.ensures).0 hit in
    ap (λ m. known_of m.0) now ∙ c.seat.view_is

-- A desk that goes home keeps the rule.
-- `unlocks` is what the table asks of the step.
use Rattle.std.specs.Global.{Box}
use Rattle.std.proofs.Common.{◌≡◌, ◌≢◌, ◌⊎◌, ℕ, ◌+◌, ◌<◌, Bool, true, false, ◌&&◌, ◌||◌, List, [], ◌∷◌, get_or, Some, None, refl, sym, ap, ◌∙◌, subst, ⊎_elim, inl, inr, arith}
use mathlib.Core.Option.{some, none}
use lib.ListN.{get_elem?}
use Rattle.atomic_table.specs.Table.{State, step, gives, Allows, rest}
use Rattle.vector_memory.specs.declared.bounds.Bounds.{Bounds}
use Rattle.cvl_text.specs.declared.call.Call.{Call}
use Rattle.call_history.specs.declared.request.Job.{Job}
use Rattle.call_history.specs.declared.entry.Entry.{Entry}
use Rattle.call_history.specs.History.{Begins}
use Rattle.call_history.specs.Blocks.{Whole}
use Rattle.call_history.specs.Fits.{request_by}
use Rattle.call_history.proofs.Beginnings.{begins_self}
use Rattle.request_slots.specs.declared.desk.Slot.{Slot}
use Rattle.request_slots.specs.declared.desk.Slot.TheVariants.{Kept}
use Rattle.request_slots.specs.declared.desk.Desk.{Desk}
use Rattle.request_slots.specs.declared.known.Pass.{Pass}
use Rattle.request_slots.specs.declared.known.Known.{Known}
use Rattle.request_slots.specs.declared.known.Phase.{Phase}
use Rattle.request_slots.specs.declared.known.Phase.TheVariants.{Idle, Left}
use Rattle.request_slots.specs.declared.known.View.{View}
use Rattle.request_slots.specs.declared.known.View.TheVariants.{Caller}
use Rattle.request_slots.specs.Stages.{Stage, unmade, idle, posted, taken, done, is_left, Station, own_word}
use Rattle.request_slots.specs.Passes.{free, held_by, pass_of, is_in, part_of}
use Rattle.request_slots.specs.Locks.{DeskRests}
use Rattle.request_slots.specs.Requests.{request_at}
use Rattle.request_slots.specs.Phases.{PhaseHolds}
use Rattle.request_slots.specs.Lawful.{Knows, Lawful}
use Rattle.request_slots.specs.Standing.{left_in}
use Rattle.request_slots.specs.Views.{known_of, pass_in, unlocking, IsSpare}
use Rattle.request_slots.specs.Events.{Sat, Unlocks}
use Rattle.request_slots.proofs.Stations.{put, abides_self, others_know}
use Rattle.request_slots.proofs.Holders.{lock_is, pass_elsewhere}
use Rattle.request_slots.proofs.Carrying.{part_free, lock_step, relocked, handed}
use Rattle.request_slots.proofs.Looking.{phase_along, front_of}

phase_left : (k : ℕ) (seen : List Entry) (own : List Call) (s : Station) (phase : Phase) → PhaseHolds k seen own s phase → left_in phase ≡ true → is_left s.stage ≡ true
phase_left k seen own s Idle p e = absurd (cc e)
phase_left k seen own s (Left job start) p e = p.left

last_stage : (stage : Stage) → is_left stage ≡ true → stage ≢ posted → stage ≢ taken → stage ≡ done
last_stage unmade e f g = absurd (cc e)
last_stage idle e f g = absurd (cc e)
last_stage posted e f g = absurd (f refl)
last_stage taken e f g = absurd (g refl)
last_stage done e f g = refl

either_true : (a b : Bool) → (a || b) ≡ true → (a ≡ true) ⊎ (b ≡ true)
either_true true b e = inl refl
either_true false b e = inr e

both_true : (a b : Bool) → (a && b) ≡ true → (a ≡ true) × (b ≡ true)
both_true true b e = (refl, e)
both_true false b e = absurd (cc e)

not_taken : (job : Job) (stage : Stage) → None ≡ request_at stage job → stage ≢ taken
not_taken job stage e is = let t : None ≡ Some job = e ∙ ap (λ (z : Stage). request_at z job) is in absurd (cc t)

module _ (bounds : Bounds) (s : State Slot View) (r : Lawful bounds s) (id : ℕ) (c : Known) (there : get_elem? s.views id ≡ some (Caller c)) where
  abbrev knows : Knows bounds r.n r.made r.line r.lock r.station id (Caller c)
  knows = r.each_seat id (Caller c) there

  abbrev here : Station
  here = r.station c.standing.number

  inside : c.standing.number < r.n
  inside = knows.inside

  -- what the caller knows once it has given the desk back
  unlock_knows : (p : Pass) → c.pass ≡ Some p → p.taken ≡ [] → Knows bounds r.n r.made r.line free r.station id (Caller (unlocking c p))
  unlock_knows p has all_told =
      let locked = lock_is r.lock c.standing.number p (sym has ∙ knows.pass_is) in
      let r' = relocked bounds s r (held_by c.standing.number p) locked in
      let line_is : p.line ≡ r.line = r'.lock_holds.pass.line_is in
      let mine = r'.each_caller c.standing.number inside in
      record {
        number_made = knows.number_made;
        inside = knows.inside;
        seat_is = knows.seat_is;
        bounds_is = knows.bounds_is;
        own_is = knows.own_is;
        fronts = record { seen_begins = subst (λ l. Begins l r.line) (sym line_is) (begins_self r.line); told_begins = knows.fronts.told_begins; start_begins = knows.fronts.start_begins; seen_whole = subst Whole (sym line_is) r.line_holds.whole; told_whole = knows.fronts.told_whole };
        pass_is = refl;
        phase = subst (λ l. PhaseHolds c.standing.number l c.standing.own here c.standing.phase) (sym line_is) (phase_along bounds s r id c knows);
        settled = record {
          done = λ e. ⊎_elim knows.settled.done
              (λ (t : (is_in p.tried c.standing.number && left_in c.standing.phase) ≡ true). let both = both_true (is_in p.tried c.standing.number) (left_in c.standing.phase) t in
              last_stage here.stage (phase_left c.standing.number c.standing.seen c.standing.own here c.standing.phase knows.phase both.1) (knows.settled.tried p has both.0)
              (not_taken here.job here.stage (sym (ap (request_by c.standing.number) all_told) ∙ mine.request_is)))
              (either_true c.standing.settled (is_in p.tried c.standing.number && left_in c.standing.phase) e);
          tried = λ q e. absurd (cc e);
        };
        notes = record { held_is = knows.notes.held_is; holder_held = λ q e. absurd (cc e); others_held = knows.notes.others_held };
      }

  -- the desk goes home
  unlock_keeps : (p : Pass) (d : Box Desk) → c.pass ≡ Some p → p.taken ≡ [] → DeskRests bounds r.n p.line d.value → Lawful bounds (handed s 0 (some (Kept d)) id (Caller (unlocking c p)))
  unlock_keeps p d has all_told rests =
      let locked = lock_is r.lock c.standing.number p (sym has ∙ knows.pass_is) in
      let r' = relocked bounds s r (held_by c.standing.number p) locked in
      let line_is : p.line ≡ r.line = r'.lock_holds.pass.line_is in
      let nothing : (k : ℕ) → request_by k p.taken ≡ None = λ k. ap (request_by k) all_told in
      lock_step bounds s r 0 (some (Kept d)) r.station free id (Caller c) (Caller (unlocking c p)) there refl (λ _. refl) r.not_made
      record { word_is = refl; desk = d; home_is = refl; rests = subst (λ l. DeskRests bounds r.n l d.value) line_is rests }
      (λ k lt. part_free bounds r.line (part_of (held_by c.standing.number p) k) (part_of free k) (get_or s.words (own_word k) 0) (get_elem? s.homes (k + 1)) k (r.station k) (r.station k).held (nothing k) refl (r'.each_caller k lt))
      (unlock_knows p has all_told)
      (others_know bounds r.n r.made r.line r.line r.lock free r.station r.station c.standing.number id knows.seat_is (begins_self r.line)
      (λ i other. sym (ap (λ l. pass_of l i) locked ∙ pass_elsewhere c.standing.number i p other)) (λ i _. abides_self (r.station i)) (λ m e. e)) tt

pub unlocks : (bounds : Bounds) (slots id : ℕ) (old me : Sat) (d : Box Desk) → me ≡ (old.0, (0, Kept d) ∷ rest old.1) → old.0 ≡ Caller (known_of old.0) → (known_of old.0).pass ≡ Some (pass_in (known_of old.0))
    → (pass_in (known_of old.0)).taken ≡ [] → d.value.book.history ≡ (pass_in (known_of old.0)).line → d.value.book.bounds ≡ (known_of old.0).standing.bounds → IsSpare slots d.value
    → Allows (Lawful bounds) slots id me 0 (λ _. 0) (λ _. Unlocks (step slots 0 0 0 none) me 0)
unlocks bounds slots id old me d put is has all_told history_is bounds_is spare =
    subst (λ (m : Sat). Allows (Lawful bounds) slots id m 0 (λ _. 0) (λ _. Unlocks (step slots 0 0 0 none) m 0)) (sym put) go
  where
    go : Allows (Lawful bounds) slots id (old.0, (0, Kept d) ∷ rest old.1) 0 (λ _. 0) (λ _. Unlocks (step slots 0 0 0 none) (old.0, (0, Kept d) ∷ rest old.1) 0)
    go s r deep at small =
        let c : Known = known_of old.0 in
        let there : get_elem? s.views id ≡ some (Caller c) = at ∙ ap (λ (v : View). some v) is in
        let knows = r.each_seat id (Caller c) there in
        let sized : slots ≡ r.n + 1 = sym deep ∙ r.deep in
        let request_spaces = spare.request_spaces in let outcome_spaces = spare.outcome_spaces in (
          Caller (unlocking c (pass_in c)),
          gives,
          tt,
          unlock_keeps bounds s r id c there (pass_in c) d has all_told record {
            bounds_is = bounds_is ∙ knows.bounds_is;
            history_is = history_is;
            no_requests = spare.no_requests;
            no_outcomes = spare.no_outcomes;
            request_spaces = omega arith;
            outcome_spaces = omega arith;
          },
          (refl, front_of slots sized r.line_holds.no_strangers (unlock_knows bounds s r id c there (pass_in c) has all_told)),
        )

-- A try at the lock keeps the rule, whether the desk is taken or another caller is found to have it.
-- `locks` is what the table asks of the step.
use Rattle.std.specs.Global.{Box}
use Rattle.std.proofs.Common.{◌≡◌, ◌≢◌, ◌⊎◌, ℕ, ◌+◌, ◌-◌, ◌<◌, Bool, true, List, [], ◌++◌, get_or, eqb, Option, Some, None, refl, sym, ap, ◌∙◌, subst, ⊎_elim, inl, arith, eq-eqb, ne_eqb}
use mathlib.Core.Logic.{dite}
use mathlib.Core.Option.{some, none}
use native.Mathlib.Decide.{ℕ_discrete}
use lib.ListN.{get_elem?}
use prog.Atomic.{either}
use Rattle.atomic_table.specs.Table.{State, step, Act, keeps, takes, stepped, Valid, carried_after, Allows}
use Rattle.vector_memory.specs.declared.bounds.Bounds.{Bounds}
use Rattle.cvl_text.specs.declared.call.Call.{Call}
use Rattle.call_history.specs.declared.entry.Entry.{Entry}
use Rattle.call_history.specs.History.{Begins}
use Rattle.call_history.specs.Blocks.{Whole}
use Rattle.call_history.specs.Callers.{calls_by}
use Rattle.call_history.proofs.Beginnings.{begins_self}
use Rattle.request_slots.specs.declared.desk.Slot.{Slot}
use Rattle.request_slots.specs.declared.desk.Slot.TheVariants.{Kept}
use Rattle.request_slots.specs.declared.desk.Desk.{Desk}
use Rattle.request_slots.specs.declared.known.Pass.{Pass}
use Rattle.request_slots.specs.declared.known.Known.{Known}
use Rattle.request_slots.specs.declared.known.Phase.{Phase}
use Rattle.request_slots.specs.declared.known.Phase.TheVariants.{Idle, Left}
use Rattle.request_slots.specs.declared.known.View.{View}
use Rattle.request_slots.specs.declared.known.View.TheVariants.{Caller}
use Rattle.request_slots.specs.Stages.{Station, own_word}
use Rattle.request_slots.specs.Passes.{Lock, free, held_by, pass_of, is_in, part_of, fresh_pass}
use Rattle.request_slots.specs.Locks.{DeskRests, LockHolds}
use Rattle.request_slots.specs.Requests.{CallerHolds}
use Rattle.request_slots.specs.Phases.{PhaseHolds}
use Rattle.request_slots.specs.Lawful.{IsNotMade, CallerKnows, Knows, Lawful}
use Rattle.request_slots.specs.Standing.{left_calls}
use Rattle.request_slots.specs.Changes.{meeting, HasOwnCalls, ShowsLine}
use Rattle.request_slots.specs.Views.{with_standing, known_of, locking}
use Rattle.request_slots.specs.Events.{Sat, Locks}
use Rattle.request_slots.proofs.Stations.{put, put_here, put_else, put_seat, put_rises, put_abides, others_know}
use Rattle.request_slots.proofs.Holders.{pass_elsewhere, pass_there, holder_begins, holder_follows, holder_has_held}
use Rattle.request_slots.proofs.Carrying.{noted, part_free, lock_step, relocked, handed, view_step}
use Rattle.request_slots.proofs.RequestLists.{is_in-push}
use Rattle.request_slots.proofs.Looking.{phase_along}

phase_noted : (k : ℕ) (seen : List Entry) (own : List Call) (s : Station) (held : Bool) (phase : Phase) → PhaseHolds k seen own s phase → PhaseHolds k seen own (noted s held) phase
phase_noted k seen own s held Idle p = p
phase_noted k seen own s held (Left job start) p = record { left = p.left; job_is = p.job_is; start_is = p.start_is; begins = p.begins; own_is = p.own_is; lawful = p.lawful }

own_calls : (k : ℕ) (line : List Entry) (own : List Call) (s : Station) (phase : Phase) → PhaseHolds k line own s phase → (calls_by k line ≡ own) ⊎ (calls_by k line ≡ own ++ left_calls phase)
own_calls k line own s Idle h = inl h.own_is
own_calls k line own s (Left job start) h = h.own_is

module _ (bounds : Bounds) (s : State Slot View) (r : Lawful bounds s) (id : ℕ) (c : Known) (there : get_elem? s.views id ≡ some (Caller c)) where
  abbrev knows : Knows bounds r.n r.made r.line r.lock r.station id (Caller c)
  knows = r.each_seat id (Caller c) there

  abbrev here : Station
  here = r.station c.standing.number

  inside : c.standing.number < r.n
  inside = knows.inside

  -- the free lock is taken, with the desk
  lock_keeps : (d : Desk) → r.lock ≡ free → DeskRests bounds r.n r.line d → Lawful bounds (handed s (c.standing.number + 1) none id (Caller (locking c d.book.history)))
  lock_keeps d is_free rests =
      let st : Station = noted here true in
      let p : Pass = fresh_pass d.book.history in
      let lock : Lock = held_by c.standing.number p in
      let free_before = relocked bounds s r free is_free in
      let rises = put_rises r.station c.standing.number st (λ _. refl) in
      lock_step bounds s r (c.standing.number + 1) none (put r.station c.standing.number st) lock id (Caller c) (Caller (locking c d.book.history)) there refl (put_seat r.station c.standing.number st refl)
      (λ k above. let made = knows.number_made in subst IsNotMade (sym (put_else r.station c.standing.number st k (λ e. omega arith))) (r.not_made k above))
      record {
        word_is = refl;
        inside = inside;
        home_is = refl;
        pass = record {
          line_is = rests.history_is;
          before_is = λ _. rests.history_is;
          grows = subst (λ l. Begins l r.line) (sym rests.history_is) (begins_self r.line);
          all_tried = λ e. absurd (cc e);
          of_callers = λ k _. refl;
        };
      }
      (λ k lt. dite (ℕ_discrete k c.standing.number)
      (λ same. subst (λ (z : Station). CallerHolds bounds r.line (part_of lock k) (get_or s.words (own_word k) 0) (get_elem? s.homes (k + 1)) k z)
      (ap (λ (z : ℕ). noted (r.station z) true) same ∙ (sym (put_here r.station c.standing.number st) ∙ ap (put r.station c.standing.number st) (sym same)))
      (part_free bounds r.line (part_of free k) (part_of lock k) (get_or s.words (own_word k) 0) (get_elem? s.homes (k + 1)) k (r.station k) true refl refl (free_before.each_caller k lt)))
      (λ other. subst (λ (z : Station). CallerHolds bounds r.line (part_of lock k) (get_or s.words (own_word k) 0) (get_elem? s.homes (k + 1)) k z)
      (sym (put_else r.station c.standing.number st k other))
      (part_free bounds r.line (part_of free k) (part_of lock k) (get_or s.words (own_word k) 0) (get_elem? s.homes (k + 1)) k (r.station k) (r.station k).held refl refl (free_before.each_caller k lt))))
      (subst (λ (z : Station × (Option Pass)). CallerKnows bounds r.n r.made r.line z.1 z.0 (λ m. (put r.station c.standing.number st m).held) id (locking c d.book.history))
      (λ i. (sym (put_here r.station c.standing.number st) i, sym (pass_there c.standing.number p) i)) record {
        number_made = knows.number_made;
        inside = knows.inside;
        seat_is = knows.seat_is;
        bounds_is = knows.bounds_is;
        own_is = knows.own_is;
        fronts = knows.fronts;
        pass_is = refl;
        phase = phase_noted c.standing.number c.standing.seen c.standing.own here true c.standing.phase knows.phase;
        settled = record {
          done = knows.settled.done;
          tried = λ q e t. let same : p ≡ q = cc e in absurd (cc (ap (λ (z : Pass). is_in z.tried c.standing.number) same ∙ t));
        };
        notes = record {
          held_is = refl;
          holder_held = λ _ _. refl;
          others_held = λ m e. let t = knows.notes.others_held m e in (t.0, t.1, rises m t.2);
        };
      })
      (others_know bounds r.n r.made r.line r.line r.lock lock r.station (put r.station c.standing.number st) c.standing.number id knows.seat_is (begins_self r.line)
      (λ i other. pass_elsewhere c.standing.number i p other ∙ ap (λ l. pass_of l i) (sym is_free)) (put_abides r.station c.standing.number st) rises)
      (holder_begins s.views (put r.station c.standing.number st) id (Caller c) (locking c d.book.history) p there (ap (λ (z : Station). z.seat) (put_here r.station c.standing.number st) ∙ knows.seat_is) refl)

  -- another caller was found at the lock
  meet_knows : (h : ℕ) → h ≢ c.standing.number → h < r.n → (r.station h).held ≡ true → Knows bounds r.n r.made r.line r.lock r.station id (Caller (with_standing c (meeting c.standing h)))
  meet_knows h other near had = record {
    number_made = knows.number_made;
    inside = knows.inside;
    seat_is = knows.seat_is;
    bounds_is = knows.bounds_is;
    own_is = knows.own_is;
    fronts = knows.fronts;
    pass_is = knows.pass_is;
    phase = knows.phase;
    settled = knows.settled;
    notes = record {
      held_is = knows.notes.held_is;
      holder_held = knows.notes.holder_held;
      others_held = λ m e. ⊎_elim (knows.notes.others_held m) (λ (t : h ≡ m). subst (λ (z : ℕ). (z ≢ c.standing.number) × (z < r.n) × ((r.station z).held ≡ true)) t (other, near, had)) (is_in-push c.standing.met h m e);
    };
  }

-- what a caller is told of the line, with the desk
shows_line : (bounds : Bounds) (slots : ℕ) (s : State Slot View) (r : Lawful bounds s) (id : ℕ) (c : Known) (d : Desk) → slots ≡ r.n + 1 → Knows bounds r.n r.made r.line r.lock r.station id (Caller c) → DeskRests bounds r.n r.line d → ShowsLine (slots - 1) c.standing d.book
shows_line bounds slots s r id c d sized knows rests = let is_line : r.line ≡ d.book.history = sym rests.history_is in record {
  bounds = rests.bounds_is ∙ sym knows.bounds_is;
  begins = subst (Begins c.standing.seen) is_line knows.fronts.seen_begins;
  own = subst (HasOwnCalls c.standing) is_line (own_calls c.standing.number r.line c.standing.own (r.station c.standing.number) c.standing.phase (phase_along bounds s r id c knows));
  whole = subst Whole is_line r.line_holds.whole;
  no_strangers = λ i far. subst (λ l. calls_by i l ≡ []) is_line (r.line_holds.no_strangers i (omega arith));
}

pub locks : (bounds : Bounds) (slots id k : ℕ) (me : Sat) → me.0 ≡ Caller (known_of me.0) → (known_of me.0).standing.number ≡ k → (known_of me.0).pass ≡ None
    → Allows (Lawful bounds) slots id me 0 (λ x. either (eqb x 0) (k + 1) x) (Locks (step slots 0 0 (k + 1) none) me)
locks bounds slots id k me is number no_pass s r deep at small =
    go (subst (Knows bounds r.n r.made r.line r.lock r.station id) is (r.each_seat id me.0 at)) r.lock refl
  where
    go : (knows : Knows bounds r.n r.made r.line r.lock r.station id (Caller (known_of me.0))) (lock : Lock) → r.lock ≡ lock → let x : ℕ = get_or s.words 0 0 in
        (w : View) × (a : Act Slot) × Valid s.homes me.1 a × Lawful bounds (stepped s 0 (either (eqb x 0) (k + 1) x) id me.1 w a) × Locks (step slots 0 0 (k + 1) none) me x (w, carried_after me.1 a)
    go knows free e =
        let c : Known = known_of me.0 in let x : ℕ = get_or s.words 0 0 in
        let h = subst (LockHolds bounds r.n r.line x (get_elem? s.homes 0)) e r.lock_holds in
        let d : Box Desk = h.desk in let rests = h.rests in
        let sized : slots ≡ r.n + 1 = sym deep ∙ r.deep in
        let request_spaces = rests.request_spaces in let outcome_spaces = rests.outcome_spaces in (
          Caller (locking c d.value.book.history),
          takes 0 (Kept d),
          h.home_is,
          subst (λ (z : Bool × ℕ). Lawful bounds (stepped s 0 (either z.0 (z.1 + 1) x) id me.1 (Caller (locking c d.value.book.history)) (takes 0 (Kept d)))) (λ i. (sym (eq-eqb x 0 h.word_is) i, number i))
              (lock_keeps bounds s r id c (at ∙ ap (λ (v : View). some v) is) d.value e rests),
          (
            (λ _. (
              d,
              record { no_requests = rests.no_requests; no_outcomes = rests.no_outcomes; request_spaces = omega arith; outcome_spaces = omega arith },
              shows_line bounds slots s r id c d.value sized knows rests,
              refl,
              refl,
            )),
            λ miss. absurd (miss h.word_is),
          ),
        )
    go knows (held_by q p) e =
        let c : Known = known_of me.0 in let x : ℕ = get_or s.words 0 0 in
        let h = subst (LockHolds bounds r.n r.line x (get_elem? s.homes 0)) e r.lock_holds in
        let other : q ≢ c.standing.number = λ same. let t : Some p ≡ None = sym (pass_there q p) ∙ (ap (pass_of (held_by q p)) same ∙ (ap (λ l. pass_of l c.standing.number) (sym e) ∙ (sym knows.pass_is ∙ no_pass))) in absurd (cc t) in
        let miss : x ≢ 0 = λ e. let word = h.word_is in omega arith in (
          Caller (with_standing c (meeting c.standing q)),
          keeps,
          tt,
          subst (λ b. Lawful bounds (stepped s 0 (either b (k + 1) x) id me.1 (Caller (with_standing c (meeting c.standing q))) keeps)) (sym (ne_eqb x 0 miss))
              (view_step bounds s r 0 id (Caller c) (Caller (with_standing c (meeting c.standing q))) (at ∙ ap (λ (v : View). some v) is) refl (meet_knows bounds s r id c (at ∙ ap (λ (v : View). some v) is) q other h.inside (holder_has_held bounds s r q p e))
              (holder_follows s.views r.station r.station r.lock id c (with_standing c (meeting c.standing q)) (at ∙ ap (λ (v : View). some v) is) refl (λ _. refl) knows.seat_is knows.pass_is r.holder_sits)),
          ((λ hit. absurd (miss hit)), λ _. (meeting c.standing q, (q, (other, (let near = h.inside in let sized : slots ≡ r.n + 1 = sym deep ∙ r.deep in omega arith)), refl), refl)),
        )

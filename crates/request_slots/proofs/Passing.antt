-- What a step of a pass leaves of the rule, for the caller that has the desk.
-- `locked` and `holds_pass` read the rule by the caller's pass; `own_knows` and `others_stay` are the seats after a step, and
-- `serve_step` is a step on the word and the slot of any caller.
use Rattle.std.proofs.Common.{◌≡◌, ◌≢◌, ℕ, ◌<◌, Bool, true, false, List, Some, refl, sym, ap, ◌∙◌, subst}
use mathlib.Core.Option.{some}
use mathlib.Core.Option as maybe
use lib.ListN.{get_elem?}
use Rattle.atomic_table.specs.Table.{State}
use Rattle.vector_memory.specs.declared.bounds.Bounds.{Bounds}
use Rattle.call_history.specs.declared.entry.Entry.{Entry}
use Rattle.call_history.specs.History.{Begins}
use Rattle.call_history.proofs.Beginnings.{begins_self}
use Rattle.request_slots.specs.declared.desk.Slot.{Slot}
use Rattle.request_slots.specs.declared.known.Pass.{Pass}
use Rattle.request_slots.specs.declared.known.Known.{Known}
use Rattle.request_slots.specs.declared.known.View.{View}
use Rattle.request_slots.specs.declared.known.View.TheVariants.{Caller}
use Rattle.request_slots.specs.Stages.{Stage, posted, Station}
use Rattle.request_slots.specs.Passes.{held_by, is_in, part_of, pass_of}
use Rattle.request_slots.specs.Locks.{PassHolds}
use Rattle.request_slots.specs.Requests.{CallerHolds}
use Rattle.request_slots.specs.Lawful.{Knows, Lawful}
use Rattle.request_slots.specs.Standing.{left_start}
use Rattle.request_slots.specs.Views.{passing}
use Rattle.request_slots.proofs.Stations.{put, Abides, put_all_abide, fronts_grow, phase_abides, others_know}
use Rattle.request_slots.proofs.Holders.{lock_is, pass_there, pass_elsewhere, holder_begins}
use Rattle.request_slots.proofs.Carrying.{relocked, caller_step, moved}

-- a station whose stage alone is another
abbrev pub staged : Station → Stage → Station
staged s stage = record { stage = stage; seat = s.seat; own = s.own; job = s.job; start = s.start; held = s.held }

module _ (bounds : Bounds) (s : State Slot View) (r : Lawful bounds s) (id : ℕ) (c : Known) (there : get_elem? s.views id ≡ some (Caller c)) (p : Pass) (has : c.pass ≡ Some p) where
  abbrev knows : Knows bounds r.n r.made r.line r.lock r.station id (Caller c)
  knows = r.each_seat id (Caller c) there

  pub locked : r.lock ≡ held_by c.standing.number p
  locked = lock_is r.lock c.standing.number p (sym has ∙ knows.pass_is)

  abbrev pub mine : Lawful bounds s
  mine = relocked bounds s r (held_by c.standing.number p) locked

  pub holds_pass : PassHolds r.n r.line p
  holds_pass = mine.lock_holds.pass

  -- the view of the caller that has the desk, after a step of its pass
  pub own_knows : (line' : List Entry) (p' : Pass) (station' : ℕ → Station) (passes : List ℕ) → Begins r.line line' → ((m : ℕ) → Abides (r.station m) (station' m))
      → (is_in p'.tried c.standing.number ≡ true → (station' c.standing.number).stage ≢ posted)
      → Knows bounds r.n r.made line' (held_by c.standing.number p') station' id (Caller (record c { standing = record c.standing { passes = passes }; pass = Some p' }))
  own_knows line' p' station' passes grew abide tried = let a = abide c.standing.number in record {
    number_made = knows.number_made;
    inside = knows.inside;
    seat_is = a.seat ∙ knows.seat_is;
    bounds_is = knows.bounds_is;
    own_is = knows.own_is ∙ sym a.own;
    fronts = fronts_grow r.line line' c.standing.seen c.told (left_start c.standing.phase) grew knows.fronts;
    pass_is = sym (pass_there c.standing.number p');
    phase = phase_abides c.standing.number c.standing.seen c.standing.own (r.station c.standing.number) (station' c.standing.number) a c.standing.phase knows.phase;
    settled = record {
      done = λ e. a.done_stays (knows.settled.done e);
      tried = λ q e t. let same : p' ≡ q = cc e in tried (ap (λ (z : Pass). is_in z.tried c.standing.number) same ∙ t);
    };
    notes = record {
      held_is = knows.notes.held_is ∙ sym a.held;
      holder_held = λ _ _. knows.notes.holder_held p has;
      others_held = λ m e. let t = knows.notes.others_held m e in (t.0, t.1, (abide m).held ∙ t.2);
    };
  }

  pub others_stay : (line' : List Entry) (p' : Pass) (station' : ℕ → Station) → Begins r.line line' → ((m : ℕ) → Abides (r.station m) (station' m))
      → (j : ℕ) → j ≢ id → (v : View) → Knows bounds r.n r.made r.line r.lock r.station j v → Knows bounds r.n r.made line' (held_by c.standing.number p') station' j v
  others_stay line' p' station' grew abide = others_know bounds r.n r.made r.line line' r.lock (held_by c.standing.number p') r.station station' c.standing.number id knows.seat_is grew
      (λ i other. pass_elsewhere c.standing.number i p' other ∙ sym (ap (λ l. pass_of l i) locked ∙ pass_elsewhere c.standing.number i p other)) (λ i _. abide i) (λ m e. (abide m).held ∙ e)

  -- a step on the word and the slot of caller i, by the one that has the desk
  pub serve_step : (i x : ℕ) (y : maybe.Option Slot) (st : Station) (p' : Pass) → i < r.n → i < r.made → Abides (r.station i) st
      → ((j : ℕ) → j ≢ i → part_of (held_by c.standing.number p') j ≡ part_of (held_by c.standing.number p) j) → CallerHolds bounds r.line (part_of (held_by c.standing.number p') i) x (some y) i st → PassHolds r.n r.line p'
      → (is_in p'.tried c.standing.number ≡ true → (put r.station i st c.standing.number).stage ≢ posted)
      → Lawful bounds (moved s i x y id (Caller (passing c p')))
  serve_step i x y st p' near made here parts caller pass tried =
      let abide = put_all_abide r.station i st here in
      caller_step bounds s mine i x y st (held_by c.standing.number p') id (Caller c) (Caller (passing c p')) near made there refl here.seat parts caller
      record { word_is = mine.lock_holds.word_is; inside = mine.lock_holds.inside; home_is = mine.lock_holds.home_is; pass = pass }
      (own_knows r.line p' (put r.station i st) c.standing.passes (begins_self r.line) abide tried)
      (subst (λ l. (j : ℕ) → j ≢ id → (v : View) → Knows bounds r.n r.made r.line l r.station j v → Knows bounds r.n r.made r.line (held_by c.standing.number p') (put r.station i st) j v) locked
      (others_stay r.line p' (put r.station i st) (begins_self r.line) abide))
      (holder_begins s.views (put r.station i st) id (Caller c) (passing c p') p' there ((abide c.standing.number).seat ∙ knows.seat_is) refl)

  -- before the commit is the time to try words
  pub open_before : (i : ℕ) → i < r.n → is_in p.tried i ≡ false → p.committed ≡ false
  open_before i near untried = go p.committed refl
    where
      go : (b : Bool) → p.committed ≡ b → b ≡ false
      go true e = absurd (cc (holds_pass.all_tried e i near, untried))
      go false e = refl

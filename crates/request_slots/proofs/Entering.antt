-- Calls that the caller with the desk writes itself keep the rule: the line grows by its own calls, and no slot is moved.
-- `enters_line` is what the table asks of the step.
use Rattle.std.proofs.Common.{◌≡◌, ◌≢◌, ℕ, ◌+◌, ◌<◌, true, false, List, length, get_or, set, None, Some, refl, sym, ap, ◌∙◌, subst, arith, length-set, get_or-set_same, get_or-set_other}
use mathlib.Core.Logic.{dite}
use mathlib.Core.Option.{some, none}
use native.Mathlib.Decide.{ℕ_discrete}
use lib.ListN.{get_elem?}
use Rattle.atomic_table.specs.Table.{State, step, keeps, Allows}
use Rattle.vector_memory.specs.declared.bounds.Bounds.{Bounds}
use Rattle.cvl_text.specs.declared.call.Call.{Call}
use Rattle.call_history.specs.declared.entry.Entry.{Entry}
use Rattle.call_history.specs.History.{Begins}
use Rattle.call_history.specs.Callers.{calls_by}
use Rattle.call_history.specs.Blocks.{Whole}
use Rattle.call_history.specs.Fits.{calls_of, fate_of}
use Rattle.call_history.proofs.Beginnings.{begins_self, begins_trans}
use Rattle.request_slots.specs.declared.desk.Slot.{Slot}
use Rattle.request_slots.specs.declared.known.Pass.{Pass}
use Rattle.request_slots.specs.declared.known.Known.{Known}
use Rattle.request_slots.specs.declared.known.View.{View}
use Rattle.request_slots.specs.declared.known.View.TheVariants.{Caller}
use Rattle.request_slots.specs.Stages.{Stage, unmade, idle, posted, taken, done, Station, Home, length_word, own_word}
use Rattle.request_slots.specs.Passes.{held_by, is_in, part_of, pass_of, fresh_pass}
use Rattle.request_slots.specs.Fronts.{IsOfCallers}
use Rattle.request_slots.specs.Requests.{StageHolds, request_at, CallerHolds}
use Rattle.request_slots.specs.Phases.{PhaseHolds}
use Rattle.request_slots.specs.Lawful.{Knows, IsNotMade, Lawful}
use Rattle.request_slots.specs.Standing.{IsIdle, left_start}
use Rattle.request_slots.specs.Views.{known_of, pass_in, entering_line, IsEntered}
use Rattle.request_slots.specs.Events.{Sat, Enters}
use Rattle.request_slots.proofs.Stations.{put, put_here, put_else, put_rises, put_abides, put_seat, others_know}
use Rattle.request_slots.proofs.Holders.{pass_there, pass_elsewhere, holder_begins, seats_apart, made_sit_after}
use Rattle.request_slots.proofs.Carrying.{seats_after}
use Rattle.request_slots.proofs.Committing.{fate_grows}
use Rattle.request_slots.proofs.Looking.{front_of}
use Rattle.request_slots.proofs.Passing.{mine, locked}

-- a station with another record
abbrev recorded : Station → List Call → Station
recorded s own = record { stage = s.stage; seat = s.seat; own = own; job = s.job; start = s.start; held = s.held }

-- a caller that has no more calls in a longer line, while a pass has taken nothing
caller_stands : (bounds : Bounds) (h : ℕ) (line line' : List Entry) (word : ℕ) (home : Home) (k : ℕ) (s : Station) → Begins line line' → calls_by k line' ≡ calls_by k line
    → CallerHolds bounds line (part_of (held_by h (fresh_pass line)) k) word home k s → CallerHolds bounds line' (part_of (held_by h (fresh_pass line')) k) word home k s
caller_stands bounds h line line' word home k s grew same t = record { word_is = t.word_is; request_is = t.request_is; stage_holds = go s.stage t.request_is t.stage_holds }
  where
    go : (stage : Stage) → None ≡ request_at stage s.job → StageHolds bounds line (part_of (held_by h (fresh_pass line)) k) home k s stage → StageHolds bounds line' (part_of (held_by h (fresh_pass line')) k) home k s stage
    go unmade e t = record { home_is = t.home_is; no_calls = same ∙ t.no_calls; own_is = t.own_is }
    go idle e t = record { home_is = t.home_is; own_is = same ∙ t.own_is }
    go posted e t = record { home_is = t.home_is; lawful = t.lawful; begins = begins_trans s.start line line' t.begins grew; own_is = same ∙ t.own_is }
    go taken e t = absurd (cc e)
    go done e t = record { outcome = t.outcome; home_is = t.home_is; of_job = t.of_job; fate = fate_grows bounds line line' k s.own (calls_of s.job) s.start (fate_of t.outcome) grew same t.fate }

-- the caller that wrote its own calls, which is idle
caller_enters : (bounds : Bounds) (h : ℕ) (line line' : List Entry) (word : ℕ) (home : Home) (k : ℕ) (s : Station) → s.stage ≡ idle
    → CallerHolds bounds line (part_of (held_by h (fresh_pass line)) k) word home k s → CallerHolds bounds line' (part_of (held_by h (fresh_pass line')) k) word home k (recorded s (calls_by k line'))
caller_enters bounds h line line' word home k s rests t = record {
  word_is = t.word_is;
  request_is = t.request_is;
  stage_holds = let old = subst (StageHolds bounds line (part_of (held_by h (fresh_pass line)) k) home k s) rests t.stage_holds in
      subst (StageHolds bounds line' (part_of (held_by h (fresh_pass line')) k) home k (recorded s (calls_by k line'))) (sym rests) record { home_is = old.home_is; own_is = refl };
}

module _ (bounds : Bounds) (s : State Slot View) (r : Lawful bounds s) (id : ℕ) (c : Known) (there : get_elem? s.views id ≡ some (Caller c)) (line : List Entry) (has : c.pass ≡ Some (fresh_pass line)) (resting : IsIdle c.standing) where
  abbrev knows : Knows bounds r.n r.made r.line r.lock r.station id (Caller c)
  knows = r.each_seat id (Caller c) there

  abbrev rule : Lawful bounds s
  rule = mine bounds s r id c there (fresh_pass line) has

  abbrev k : ℕ
  k = c.standing.number

  abbrev here : Station
  here = r.station k

  abbrev after : List Entry → ℕ → Station
  after line' = put r.station k (recorded here (calls_by k line'))

  same_line : line ≡ r.line
  same_line = rule.lock_holds.pass.line_is

  here_is : (line' : List Entry) → after line' k ≡ recorded here (calls_by k line')
  here_is line' = put_here r.station k (recorded here (calls_by k line'))

  idle_here : here.stage ≡ idle
  idle_here = (subst (PhaseHolds k c.standing.seen c.standing.own here) resting knows.phase).stage_is

  -- what the caller knows then
  enter_knows : (line' : List Entry) → Begins r.line line' → Whole line' → Knows bounds r.n r.made line' (held_by k (fresh_pass line')) (after line') id (Caller (entering_line c line'))
  enter_knows line' grew whole = record {
    number_made = knows.number_made;
    inside = knows.inside;
    seat_is = ap (λ (z : Station). z.seat) (here_is line') ∙ knows.seat_is;
    bounds_is = knows.bounds_is;
    own_is = ap (λ (z : Station). z.own) (sym (here_is line'));
    fronts = record {
      seen_begins = begins_self line';
      told_begins = begins_trans c.told r.line line' knows.fronts.told_begins grew;
      start_begins = begins_trans (left_start c.standing.phase) r.line line' knows.fronts.start_begins grew;
      seen_whole = whole;
      told_whole = knows.fronts.told_whole;
    };
    pass_is = sym (pass_there k (fresh_pass line'));
    phase = subst (PhaseHolds k line' (calls_by k line') (after line' k)) (sym resting) record { stage_is = ap (λ (z : Station). z.stage) (here_is line') ∙ idle_here; own_is = refl };
    settled = record {
      done = λ e. ap (λ (z : Station). z.stage) (here_is line') ∙ knows.settled.done e;
      tried = λ q e t. let same : fresh_pass line' ≡ q = cc e in let none : false ≡ true = ap (λ (z : Pass). is_in z.tried k) same ∙ t in absurd (cc none);
    };
    notes = record {
      held_is = knows.notes.held_is ∙ ap (λ (z : Station). z.held) (sym (here_is line'));
      holder_held = λ _ _. knows.notes.holder_held (fresh_pass line) has;
      others_held = λ m e. let t = knows.notes.others_held m e in (t.0, t.1, put_rises r.station k (recorded here (calls_by k line')) (λ z. z) m t.2);
    };
  }

  others_since : (line' : List Entry) → IsEntered k line line' → (i : ℕ) → i ≢ k → calls_by i line' ≡ calls_by i r.line
  others_since line' entered i other = entered.others i other ∙ ap (calls_by i) same_line

  no_strangers_since : (line' : List Entry) → IsEntered k line line' → IsOfCallers r.n line'
  no_strangers_since line' entered i far = others_since line' entered i (λ e. let inside = knows.inside in omega arith) ∙ r.line_holds.no_strangers i far

  -- the line becomes this one, which has more calls of this caller alone
  enter_keeps : (line' : List Entry) → IsEntered k line line' → Whole line' → Lawful bounds record { words = set s.words length_word (length line'); homes = s.homes; views = set s.views id (Caller (entering_line c line')) }
  enter_keeps line' entered whole =
      let p : Pass = fresh_pass line' in
      let grew : Begins r.line line' = subst (λ l. Begins l line') same_line entered.grows in
      let st : Station = recorded here (calls_by k line') in
      let wide = r.wide in
      let seats = seats_after (Knows bounds r.n r.made r.line r.lock r.station) (Knows bounds r.n r.made line' (held_by k p) (after line')) s.views id (Caller (entering_line c line'))
      (enter_knows line' grew whole)
      (others_know bounds r.n r.made r.line line' r.lock (held_by k p) r.station (after line') k id knows.seat_is grew
      (λ i other. pass_elsewhere k i p other ∙ sym (ap (λ l. pass_of l i) (locked bounds s r id c there (fresh_pass line) has) ∙ pass_elsewhere k i (fresh_pass line) other))
      (put_abides r.station k st) (put_rises r.station k st (λ z. z))) r.each_seat in
      record {
        n = r.n;
        made = r.made;
        line = line';
        lock = held_by k p;
        station = after line';
        wide = length-set s.words length_word (length line') ∙ r.wide;
        deep = r.deep;
        not_made = λ m far. subst IsNotMade (sym (put_else r.station k st m (λ e. let made = knows.number_made in omega arith))) (r.not_made m far);
        line_holds = record {
          length_is = get_or-set_same s.words length_word (length line') 0 (omega arith);
          whole = whole;
          no_strangers = no_strangers_since line' entered;
        };
        lock_holds = record {
          word_is = get_or-set_other s.words length_word 0 (length line') 0 (λ e. omega arith) ∙ rule.lock_holds.word_is;
          inside = rule.lock_holds.inside;
          home_is = rule.lock_holds.home_is;
          pass = record { line_is = refl; before_is = λ _. refl; grows = begins_self line'; all_tried = λ e. absurd (cc e); of_callers = λ _ _. refl };
        };
        holder_sits = holder_begins s.views (after line') id (Caller c) (entering_line c line') p there (ap (λ (z : Station). z.seat) (here_is line') ∙ knows.seat_is) refl;
        sit_apart = seats_apart bounds r.n r.made line' (held_by k p) (after line') (set s.views id (Caller (entering_line c line'))) seats;
        made_sit = made_sit_after s.views r.station (after line') r.made id (Caller c) (Caller (entering_line c line')) there refl (put_seat r.station k st refl) r.made_sit;
        each_caller = λ i lt. subst (λ (z : ℕ). CallerHolds bounds line' (part_of (held_by k p) i) z (get_elem? s.homes (i + 1)) i (after line' i))
            (sym (get_or-set_other s.words length_word (own_word i) (length line') 0 (λ e. omega arith))) (each line' grew (others_since line' entered) i lt);
        each_seat = seats;
      }
    where
      old : (i : ℕ) → i < r.n → CallerHolds bounds r.line (part_of (held_by k (fresh_pass r.line)) i) (get_or s.words (own_word i) 0) (get_elem? s.homes (i + 1)) i (r.station i)
      old i lt = subst (λ l. CallerHolds bounds r.line (part_of (held_by k (fresh_pass l)) i) (get_or s.words (own_word i) 0) (get_elem? s.homes (i + 1)) i (r.station i)) same_line (rule.each_caller i lt)

      each : (line' : List Entry) → Begins r.line line' → ((i : ℕ) → i ≢ k → calls_by i line' ≡ calls_by i r.line) → (i : ℕ) → i < r.n
          → CallerHolds bounds line' (part_of (held_by k (fresh_pass line')) i) (get_or s.words (own_word i) 0) (get_elem? s.homes (i + 1)) i (after line' i)
      each line' grew others i lt = dite (ℕ_discrete i k)
          (λ same. subst (λ (z : ℕ). CallerHolds bounds line' (part_of (held_by k (fresh_pass line')) z) (get_or s.words (own_word z) 0) (get_elem? s.homes (z + 1)) z (after line' z)) (sym same)
          (subst (CallerHolds bounds line' (part_of (held_by k (fresh_pass line')) k) (get_or s.words (own_word k) 0) (get_elem? s.homes (k + 1)) k) (sym (here_is line'))
          (caller_enters bounds k r.line line' (get_or s.words (own_word k) 0) (get_elem? s.homes (k + 1)) k here idle_here (old k knows.inside))))
          (λ other. subst (CallerHolds bounds line' (part_of (held_by k (fresh_pass line')) i) (get_or s.words (own_word i) 0) (get_elem? s.homes (i + 1)) i) (sym (put_else r.station k (recorded here (calls_by k line')) i other))
          (caller_stands bounds k r.line line' (get_or s.words (own_word i) 0) (get_elem? s.homes (i + 1)) i (r.station i) grew (others i other) (old i lt)))

pub enters_line : (bounds : Bounds) (slots id : ℕ) (me : Sat) (line : List Entry) → me.0 ≡ Caller (known_of me.0) → IsIdle (known_of me.0).standing
    → (known_of me.0).pass ≡ Some (fresh_pass (pass_in (known_of me.0)).line) → IsEntered (known_of me.0).standing.number (pass_in (known_of me.0)).line line → Whole line
    → Allows (Lawful bounds) slots id me length_word (λ _. length line) (λ _. Enters line (step slots length_word (length line) 0 none) me (length line))
enters_line bounds slots id me line is resting has entered whole s r deep at small =
    let c : Known = known_of me.0 in
    let there : get_elem? s.views id ≡ some (Caller c) = at ∙ ap (λ (v : View). some v) is in
    let sized : slots ≡ r.n + 1 = sym deep ∙ r.deep in
    let line_is = same_line bounds s r id c there (pass_in c).line has resting in (
      Caller (entering_line c line),
      keeps,
      tt,
      enter_keeps bounds s r id c there (pass_in c).line has resting line entered whole,
      (
        refl,
        front_of slots sized (no_strangers_since bounds s r id c there (pass_in c).line has resting line entered)
            (enter_knows bounds s r id c there (pass_in c).line has resting line (subst (λ l. Begins l line) line_is entered.grows) whole),
      ),
    )

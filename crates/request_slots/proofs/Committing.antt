-- The commit keeps the rule: the line grows by a batch that serves the requests taken.
-- `commits_line` is what the table asks of the step.
use Rattle.std.proofs.Common.{◌≡◌, ℕ, ◌+◌, ◌<◌, true, false, List, [], ◌∷◌, ◌++◌, length, get_or, set, Option, Some, refl, sym, ap, ◌∙◌, subst, arith, length-set, get_or-set_same, get_or-set_other}
use mathlib.Core.Option.{some, none}
use lib.ListN.{get_elem?}
use Rattle.atomic_table.specs.Table.{State, step, keeps, Allows}
use Rattle.vector_memory.specs.declared.bounds.Bounds.{Bounds}
use Rattle.cvl_text.specs.declared.call.Call.{Call}
use Rattle.call_history.specs.declared.entry.Entry.{Entry}
use Rattle.call_history.specs.declared.request.Outcome.{Outcome}
use Rattle.call_history.specs.History.{Begins}
use Rattle.call_history.specs.Callers.{calls_by}
use Rattle.call_history.specs.Blocks.{Whole}
use Rattle.call_history.specs.Answers.{Answers}
use Rattle.call_history.specs.Fits.{calls_of, Fate, StandsAt, CameBack, fate_of, outcome_by, Fits, FitsCaller, FitsFate}
use Rattle.call_history.proofs.Beginnings.{begins_trans, begins_length, take_grown}
use Rattle.call_history.proofs.Serving.{answers-from_serves}
use Rattle.request_slots.specs.declared.desk.Slot.{Slot}
use Rattle.request_slots.specs.declared.known.Pass.{Pass}
use Rattle.request_slots.specs.declared.known.Known.{Known}
use Rattle.request_slots.specs.declared.known.View.{View}
use Rattle.request_slots.specs.declared.known.View.TheVariants.{Caller}
use Rattle.request_slots.specs.Stages.{Stage, unmade, idle, posted, taken, done, Station, Home, length_word, own_word}
use Rattle.request_slots.specs.Passes.{held_by, is_in, Part, part_of, commits}
use Rattle.request_slots.specs.Requests.{FateHolds, ServedHolds, StageHolds, request_at, CallerHolds}
use Rattle.request_slots.specs.Lawful.{Knows, Lawful}
use Rattle.request_slots.specs.Views.{known_of, pass_in, committing}
use Rattle.request_slots.specs.Events.{Sat, Commits}
use Rattle.request_slots.proofs.Stations.{Abides, abides_self}
use Rattle.request_slots.proofs.Holders.{holder_begins, seats_apart, made_sit_after}
use Rattle.request_slots.proofs.Carrying.{seats_after}
use Rattle.request_slots.proofs.Passing.{mine, holds_pass, own_knows, others_stay}

-- An outcome that holds along a line holds along a longer one that has no more calls of its caller
pub fate_grows : (bounds : Bounds) (line line' : List Entry) (k : ℕ) (own calls : List Call) (start : List Entry) (fate : Fate) → Begins line line' → calls_by k line' ≡ calls_by k line
    → FateHolds bounds line k own calls start fate → FateHolds bounds line' k own calls start fate
fate_grows bounds line line' k own calls start (StandsAt place replies) grew same h =
    let longer = begins_length line line' grew in let short = h.0 in
    (omega arith, subst (λ l. Answers bounds start own k calls l replies) (sym (take_grown (place + length calls) line line' grew h.0)) h.1, same ∙ h.2)
fate_grows bounds line line' k own calls start (CameBack back) grew same h = (h.0, same ∙ h.1)

-- a batch makes the outcomes of its requests hold
fate_fits : (bounds : Bounds) (line line' : List Entry) (k : ℕ) (own calls : List Call) (start : List Entry) (fate : Fate) → Begins start line → Begins line line' → calls_by k line ≡ own
    → FitsFate bounds line line' k calls fate → FateHolds bounds line' k own calls start fate
fate_fits bounds line line' k own calls start (StandsAt place replies) saw grew had f =
    let all : calls_by k line' ≡ own ++ calls = f.0 ∙ ap (λ l. l ++ calls) had in
    (f.1.within, answers-from_serves bounds start line line' own k calls place replies saw grew had all f.1, all)
fate_fits bounds line line' k own calls start (CameBack back) saw grew had f = (f.1, f.0 ∙ had)

abbrev committed_part : Part → Option Outcome → Part
committed_part part outcome = record { request = part.request; outcome = outcome; before = part.before; committed = true }

-- the commit keeps what holds of each caller
caller_commits : (bounds : Bounds) (line line' : List Entry) (part : Part) (outcome : Option Outcome) (word : ℕ) (home : Home) (k : ℕ) (s : Station) → part.committed ≡ false → part.before ≡ line → Begins line line'
    → FitsCaller bounds line line' k part.request outcome → CallerHolds bounds line part word home k s
    → CallerHolds bounds line' (committed_part part outcome) word home k s
caller_commits bounds line line' part outcome word home k s open_yet before_is grew fits h = record {
  word_is = h.word_is;
  request_is = h.request_is;
  stage_holds = go s.stage (subst (λ q. FitsCaller bounds line line' k q outcome) h.request_is fits) h.stage_holds;
}
  where
    go : (stage : Stage) → FitsCaller bounds line line' k (request_at stage s.job) outcome → StageHolds bounds line part home k s stage → StageHolds bounds line' (committed_part part outcome) home k s stage
    go unmade f t = record { home_is = t.home_is; no_calls = f ∙ t.no_calls; own_is = t.own_is }
    go idle f t = record { home_is = t.home_is; own_is = f ∙ t.own_is }
    go posted f t = record { home_is = t.home_is; lawful = t.lawful; begins = begins_trans s.start line line' t.begins grew; own_is = f ∙ t.own_is }
    go taken f t = record {
      home_is = t.home_is;
      begins = t.begins;
      served = (
        f.0,
        f.1,
        f.2,
        fate_fits bounds line line' k s.own (calls_of s.job) s.start (fate_of f.0) (subst (Begins s.start) before_is t.begins) grew
            (subst (ServedHolds bounds line part.outcome k s.own s.job s.start) open_yet t.served) f.3,
      );
    }
    go done f t = record { outcome = t.outcome; home_is = t.home_is; of_job = t.of_job; fate = fate_grows bounds line line' k s.own (calls_of s.job) s.start (fate_of t.outcome) grew f t.fate }

module _ (bounds : Bounds) (s : State Slot View) (r : Lawful bounds s) (id : ℕ) (c : Known) (there : get_elem? s.views id ≡ some (Caller c)) (p : Pass) (has : c.pass ≡ Some p) where
  abbrev knows : Knows bounds r.n r.made r.line r.lock r.station id (Caller c)
  knows = r.each_seat id (Caller c) there

  abbrev rule : Lawful bounds s
  rule = mine bounds s r id c there p has

  -- the line becomes the history of the batch
  commit_keeps : (line' : List Entry) (outcomes : List Outcome) → p.committed ≡ false → ((i : ℕ) → i < r.n → is_in p.tried i ≡ true) → Fits bounds p.line p.taken line' outcomes → Whole line'
      → Lawful bounds record { words = set s.words length_word (length line'); homes = s.homes; views = set s.views id (Caller (committing c p line' outcomes)) }
  commit_keeps line' outcomes open_yet all fits whole =
      let p' : Pass = commits p line' outcomes in
      let pass = holds_pass bounds s r id c there p has in
      let abide : (m : ℕ) → Abides (r.station m) (r.station m) = λ m. abides_self (r.station m) in
      let before_is = pass.before_is open_yet in
      let fitting = subst (λ l. Fits bounds l p.taken line' outcomes) pass.line_is fits in
      let wide = r.wide in
      let seats = seats_after (Knows bounds r.n r.made r.line r.lock r.station) (Knows bounds r.n r.made line' (held_by c.standing.number p') r.station) s.views id (Caller (committing c p line' outcomes))
      (own_knows bounds s r id c there p has line' p' r.station (c.standing.passes ++ length p.taken ∷ []) fitting.grows abide (λ t e. knows.settled.tried p has t e))
      (others_stay bounds s r id c there p has line' p' r.station fitting.grows abide) r.each_seat in
      record {
        n = r.n;
        made = r.made;
        line = line';
        lock = held_by c.standing.number p';
        station = r.station;
        wide = length-set s.words length_word (length line') ∙ r.wide;
        deep = r.deep;
        not_made = r.not_made;
        line_holds = record {
          length_is = get_or-set_same s.words length_word (length line') 0 (omega arith);
          whole = whole;
          no_strangers = λ k far. subst (λ q. FitsCaller bounds r.line line' k q (outcome_by k p.taken outcomes)) (pass.of_callers k far) (fitting.each k) ∙ r.line_holds.no_strangers k far;
        };
        lock_holds = record {
          word_is = get_or-set_other s.words length_word 0 (length line') 0 (λ e. omega arith) ∙ rule.lock_holds.word_is;
          inside = rule.lock_holds.inside;
          home_is = rule.lock_holds.home_is;
          pass = record {
            line_is = refl;
            before_is = λ e. absurd (cc e);
            grows = subst (λ l. Begins l line') (sym before_is) fitting.grows;
            all_tried = λ _. all;
            of_callers = pass.of_callers;
          };
        };
        holder_sits = holder_begins s.views r.station id (Caller c) (committing c p line' outcomes) p' there knows.seat_is refl;
        sit_apart = seats_apart bounds r.n r.made line' (held_by c.standing.number p') r.station (set s.views id (Caller (committing c p line' outcomes))) seats;
        made_sit = made_sit_after s.views r.station r.station r.made id (Caller c) (Caller (committing c p line' outcomes)) there refl (λ _. refl) r.made_sit;
        each_caller = λ k lt. subst (λ (z : ℕ). CallerHolds bounds line' (part_of (held_by c.standing.number p') k) z (get_elem? s.homes (k + 1)) k (r.station k))
            (sym (get_or-set_other s.words length_word (own_word k) (length line') 0 (λ e. omega arith)))
            (caller_commits bounds r.line line' (part_of (held_by c.standing.number p) k) (outcome_by k p.taken outcomes) (get_or s.words (own_word k) 0) (get_elem? s.homes (k + 1)) k (r.station k)
            open_yet before_is fitting.grows (fitting.each k) (rule.each_caller k lt));
        each_seat = seats;
      }

pub commits_line : (bounds : Bounds) (slots id : ℕ) (me : Sat) (line : List Entry) (outcomes : List Outcome) → me.0 ≡ Caller (known_of me.0) → (known_of me.0).pass ≡ Some (pass_in (known_of me.0))
    → (pass_in (known_of me.0)).committed ≡ false → ((i : ℕ) → i + 1 < slots → is_in (pass_in (known_of me.0)).tried i ≡ true)
    → Fits (known_of me.0).standing.bounds (pass_in (known_of me.0)).line (pass_in (known_of me.0)).taken line outcomes → Whole line
    → Allows (Lawful bounds) slots id me length_word (λ _. length line) (λ _. Commits line outcomes (step slots length_word (length line) 0 none) me (length line))
commits_line bounds slots id me line outcomes is has open_yet all fits whole s r deep at small =
    let c : Known = known_of me.0 in
    let there : get_elem? s.views id ≡ some (Caller c) = at ∙ ap (λ (v : View). some v) is in
    let knows = r.each_seat id (Caller c) there in
    let sized : slots ≡ r.n + 1 = sym deep ∙ r.deep in (
      Caller (committing c (pass_in c) line outcomes),
      keeps,
      tt,
      commit_keeps bounds s r id c there (pass_in c) has line outcomes open_yet (λ i near. all i (omega arith))
          (subst (λ (z : Bounds). Fits z (pass_in c).line (pass_in c).taken line outcomes) knows.bounds_is fits) whole,
      refl,
    )

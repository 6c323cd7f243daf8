-- A caller's own steps keep the rule: it posts, and it collects.
-- `posts` and `collects` are what the table asks of the two steps.
use Rattle.std.proofs.Common.{◌≡◌, ◌≢◌, ℕ, ◌+◌, ◌<◌, Bool, true, false, List, ◌∷◌, ◌++◌, length, take, get_or, eqb, None, refl, sym, ap, ◌∙◌, subst, ⊎_elim, inl, arith, eq-eqb, ne_eqb}
use mathlib.Core.Logic.{dite}
use mathlib.Core.Option.{some, none}
use native.Mathlib.Decide.{ℕ_discrete}
use lib.ListN.{get_elem?}
use prog.Atomic.{either}
use Rattle.atomic_table.specs.Table.{State, step, keeps, takes, gives, stepped, Allows, rest}
use Rattle.atomic_table.proofs.Lists.{set_again}
use Rattle.vector_memory.specs.declared.bounds.Bounds.{Bounds}
use Rattle.cvl_text.specs.declared.call.Call.{Call}
use Rattle.call_history.specs.declared.entry.Entry.{Entry}
use Rattle.call_history.specs.declared.request.Job.{Job}
use Rattle.call_history.specs.declared.request.Outcome.{Outcome}
use Rattle.call_history.specs.History.{Begins}
use Rattle.call_history.specs.Callers.{calls_by}
use Rattle.call_history.specs.Blocks.{Whole}
use Rattle.call_history.specs.Fits.{calls_of, IsLawfulJob, Fate, StandsAt, CameBack, fate_of, IsOfJob}
use Rattle.call_history.proofs.Beginnings.{begins_self, begins_empty, take_begins, length_of_take}
use Rattle.call_history.proofs.CallerLemmas.{calls_stay, calls_between}
use Rattle.request_slots.specs.declared.desk.Slot.{Slot}
use Rattle.request_slots.specs.declared.desk.Slot.TheVariants.{Asked, Told}
use Rattle.request_slots.specs.declared.known.Known.{Known}
use Rattle.request_slots.specs.declared.known.Phase.TheVariants.{Idle}
use Rattle.request_slots.specs.declared.known.View.{View}
use Rattle.request_slots.specs.declared.known.View.TheVariants.{Caller}
use Rattle.request_slots.specs.Stages.{Stage, unmade, idle, posted, taken, done, code, Station, own_word}
use Rattle.request_slots.specs.Passes.{pass_of, part_of}
use Rattle.request_slots.specs.Locks.{HolderSits}
use Rattle.request_slots.specs.Requests.{StageHolds, FateHolds, request_at}
use Rattle.request_slots.specs.Phases.{PhaseHolds}
use Rattle.request_slots.specs.Lawful.{CallerKnows, Knows, Lawful}
use Rattle.request_slots.specs.Standing.{Standing, left_calls, left_job, IsLeft}
use Rattle.request_slots.specs.Changes.{longer, leaving_job, Collected}
use Rattle.request_slots.specs.Views.{with_standing, known_of}
use Rattle.request_slots.specs.Events.{Sat, job_in_hand, Posts, Collects}
use Rattle.request_slots.proofs.Stations.{put, put_here, put_rises, put_abides, put_seat, notes_rise, others_know}
use Rattle.request_slots.proofs.Holders.{holder_follows}
use Rattle.request_slots.proofs.Carrying.{caller_step, view_step, moved}
use Rattle.request_slots.proofs.Looking.{longer_begins, longer_whole, not_true, begins_of_callers}

code_done : (stage : Stage) → code stage ≡ 4 → stage ≡ done
code_done unmade e = absurd (omega arith)
code_done idle e = absurd (omega arith)
code_done posted e = absurd (omega arith)
code_done taken e = absurd (omega arith)
code_done done e = refl

module _ (bounds : Bounds) (s : State Slot View) (r : Lawful bounds s) (id : ℕ) (c : Known) (there : get_elem? s.views id ≡ some (Caller c)) where
  abbrev knows : Knows bounds r.n r.made r.line r.lock r.station id (Caller c)
  knows = r.each_seat id (Caller c) there

  abbrev here : Station
  here = r.station c.standing.number

  inside : c.standing.number < r.n
  inside = knows.inside

  idle_word : c.standing.phase ≡ Idle → get_or s.words (own_word c.standing.number) 0 ≡ 1
  idle_word at_rest = let phase = subst (PhaseHolds c.standing.number c.standing.seen c.standing.own here) at_rest knows.phase in (r.each_caller c.standing.number inside).word_is ∙ ap code phase.stage_is

  -- the station of a caller that leaves this job
  abbrev posted_station : Job → Station
  posted_station job = record { stage = posted; seat = here.seat; own = here.own; job = job; start = c.standing.seen; held = here.held }

  -- the seats other than the caller's, after a step that moves only its own station
  abbrev others_stay : (st : Station) → ((r.station c.standing.number).held ≡ true → st.held ≡ true)
      → (j : ℕ) → j ≢ id → (v : View) → Knows bounds r.n r.made r.line r.lock r.station j v → Knows bounds r.n r.made r.line r.lock (put r.station c.standing.number st) j v
  others_stay st up = others_know bounds r.n r.made r.line r.line r.lock r.lock r.station (put r.station c.standing.number st) c.standing.number id knows.seat_is (begins_self r.line) (λ i other. refl)
      (put_abides r.station c.standing.number st) (put_rises r.station c.standing.number st up)

  post_keeps : (job : Job) → IsLawfulJob job → c.standing.phase ≡ Idle → c.pass ≡ None → Lawful bounds (moved s c.standing.number 2 (some (Asked job)) id (Caller (with_standing c (leaving_job c.standing job))))
  post_keeps job lawful at_rest no_pass =
      let st : Station = posted_station job in
      let held = r.each_caller c.standing.number inside in
      let phase = subst (PhaseHolds c.standing.number c.standing.seen c.standing.own here) at_rest knows.phase in
      let stage = subst (StageHolds bounds r.line (part_of r.lock c.standing.number) (get_elem? s.homes (c.standing.number + 1)) c.standing.number here) phase.stage_is held.stage_holds in
      let rises = put_rises r.station c.standing.number st (λ e. e) in
      caller_step bounds s r c.standing.number 2 (some (Asked job)) st r.lock id (Caller c) (Caller (with_standing c (leaving_job c.standing job))) inside knows.number_made there refl refl (λ i other. refl)
      record {
        word_is = refl;
        request_is = held.request_is ∙ ap (λ (z : Stage). request_at z here.job) phase.stage_is;
        stage_holds = record { home_is = refl; lawful = lawful; begins = knows.fronts.seen_begins; own_is = stage.own_is };
      }
      r.lock_holds
      (subst (λ (z : Station). CallerKnows bounds r.n r.made r.line (pass_of r.lock c.standing.number) z (λ m. (put r.station c.standing.number st m).held) id (with_standing c (leaving_job c.standing job))) (sym (put_here r.station c.standing.number st)) record {
        number_made = knows.number_made;
        inside = knows.inside;
        seat_is = knows.seat_is;
        bounds_is = knows.bounds_is;
        own_is = knows.own_is;
        fronts = record { seen_begins = knows.fronts.seen_begins; told_begins = knows.fronts.told_begins; start_begins = knows.fronts.seen_begins; seen_whole = knows.fronts.seen_whole; told_whole = knows.fronts.told_whole };
        pass_is = knows.pass_is;
        phase = record { left = refl; job_is = refl; start_is = refl; begins = begins_self c.standing.seen; own_is = inl phase.own_is; lawful = lawful };
        settled = record { done = λ e. absurd (cc (knows.settled.done e, phase.stage_is)); tried = λ p e _ _. absurd (cc (e, no_pass)) };
        notes = notes_rise r.n c.standing.number c.standing.held here.held here.held c.standing.met c.pass (λ m. (r.station m).held) (λ m. (put r.station c.standing.number st m).held) refl rises knows.notes;
      })
      (others_stay st (λ e. e))
      (holder_follows s.views r.station (put r.station c.standing.number st) r.lock id c (with_standing c (leaving_job c.standing job)) there refl (put_seat r.station c.standing.number st refl) knows.seat_is knows.pass_is r.holder_sits)

  -- where the caller stands once it has its outcome
  abbrev collected : List Entry → List Call → Standing
  collected seen own = record c.standing { seen = seen; own = own; phase = Idle; settled = false }

  collect_keeps : (seen : List Entry) (own : List Call) → here.stage ≡ done → Begins seen r.line → Whole seen → calls_by c.standing.number seen ≡ own → calls_by c.standing.number r.line ≡ own
      → Lawful bounds (moved s c.standing.number 1 none id (Caller (with_standing c (collected seen own))))
  collect_keeps seen own at_end saw whole had has =
      let st : Station = record { stage = idle; seat = here.seat; own = own; job = here.job; start = here.start; held = here.held } in
      let held = r.each_caller c.standing.number inside in
      let rises = put_rises r.station c.standing.number st (λ e. e) in
      caller_step bounds s r c.standing.number 1 none st r.lock id (Caller c) (Caller (with_standing c (collected seen own))) inside knows.number_made there refl refl (λ i other. refl)
      record {
        word_is = refl;
        request_is = held.request_is ∙ ap (λ (z : Stage). request_at z here.job) at_end;
        stage_holds = record { home_is = refl; own_is = has };
      }
      r.lock_holds
      (subst (λ (z : Station). CallerKnows bounds r.n r.made r.line (pass_of r.lock c.standing.number) z (λ m. (put r.station c.standing.number st m).held) id (with_standing c (collected seen own))) (sym (put_here r.station c.standing.number st)) record {
        number_made = knows.number_made;
        inside = knows.inside;
        seat_is = knows.seat_is;
        bounds_is = knows.bounds_is;
        own_is = refl;
        fronts = record { seen_begins = saw; told_begins = knows.fronts.told_begins; start_begins = begins_empty r.line; seen_whole = whole; told_whole = knows.fronts.told_whole };
        pass_is = knows.pass_is;
        phase = record { stage_is = refl; own_is = had };
        settled = record { done = λ e. absurd (cc e); tried = λ p e _ post. absurd (cc post) };
        notes = notes_rise r.n c.standing.number c.standing.held here.held here.held c.standing.met c.pass (λ m. (r.station m).held) (λ m. (put r.station c.standing.number st m).held) refl rises knows.notes;
      })
      (others_stay st (λ e. e))
      (holder_follows s.views r.station (put r.station c.standing.number st) r.lock id c (with_standing c (collected seen own)) there refl (put_seat r.station c.standing.number st refl) knows.seat_is knows.pass_is r.holder_sits)

  -- the outcome of the job that was left gives the caller's new front and record
  collect_fate : IsLeft c.standing → (fate : Fate) → FateHolds bounds r.line c.standing.number here.own (calls_of here.job) here.start fate
      → (seen : List Entry) × (own : List Call) × Begins seen r.line × Whole seen × (calls_by c.standing.number seen ≡ own) × (calls_by c.standing.number r.line ≡ own) × Collected c.standing fate (collected seen own)
  collect_fate is (StandsAt place replies) h =
      let calls : List Call = left_calls c.standing.phase in
      let phase = subst (PhaseHolds c.standing.number c.standing.seen c.standing.own here) is knows.phase in
      let same_calls : calls_of here.job ≡ calls = ap calls_of (sym phase.job_is) ∙ sym (ap left_calls is) in
      let f = subst (λ (z : Bounds × List Call × (List Call) × List Entry). FateHolds z.0 r.line c.standing.number z.1 z.2 z.3 (StandsAt place replies))
      (λ j. (sym knows.bounds_is j, sym knows.own_is j, same_calls j, sym phase.start_is j)) h in
      let history : List Entry = take (place + length calls) r.line in
      let both = longer_begins c.standing.seen history r.line knows.fronts.seen_begins (take_begins (place + length calls) r.line) in (
        longer c.standing.seen history,
        c.standing.own ++ calls,
        both.2,
        longer_whole c.standing.seen history knows.fronts.seen_whole f.1.whole,
        calls_between c.standing.number history (longer c.standing.seen history) r.line (c.standing.own ++ calls) both.1 both.2 f.1.owns f.2,
        f.2,
        (history, length_of_take (place + length calls) r.line f.0, f.1, both.0, both.1, refl),
      )
  collect_fate is (CameBack back) h =
      let phase = subst (PhaseHolds c.standing.number c.standing.seen c.standing.own here) is knows.phase in
      let calls : List Call = calls_of (left_job c.standing.phase) in
      let none_new : calls_by c.standing.number r.line ≡ c.standing.own = h.1 ∙ sym knows.own_is in (
        c.standing.seen,
        c.standing.own,
        knows.fronts.seen_begins,
        knows.fronts.seen_whole,
        ⊎_elim (λ (e : calls_by c.standing.number c.standing.seen ≡ c.standing.own). e) (λ (e : calls_by c.standing.number c.standing.seen ≡ c.standing.own ++ calls). calls_stay c.standing.number c.standing.seen r.line c.standing.own calls knows.fronts.seen_begins e none_new) phase.own_is,
        none_new,
        (h.0 ∙ (ap calls_of (sym phase.job_is) ∙ sym (ap left_calls is)), refl),
      )

  -- and it is of the kind of the job
  collect_kind : IsLeft c.standing → (o : Outcome) → IsOfJob here.job o → IsOfJob (left_job c.standing.phase) o
  collect_kind is o h =
      let phase = subst (PhaseHolds c.standing.number c.standing.seen c.standing.own here) is knows.phase in
      subst (λ (z : Job). IsOfJob z o) (sym phase.job_is) h

posts_at : (bounds : Bounds) (slots id : ℕ) (me : Sat) (job : Job) → IsLawfulJob job → let c : Known = known_of me.0 in me.0 ≡ Caller c → c.standing.phase ≡ Idle → c.pass ≡ None → me.1 ≡ (c.standing.number + 1, Asked job) ∷ rest me.1
    → Allows (Lawful bounds) slots id me (own_word c.standing.number) (λ x. either (eqb x 1) 2 x) (Posts (step slots (own_word c.standing.number) 1 2 none) me)
posts_at bounds slots id me job lawful is at_rest no_pass hand s r deep at small =
    let c : Known = known_of me.0 in let i : ℕ = own_word c.standing.number in let x : ℕ = get_or s.words i 0 in
    let there : get_elem? s.views id ≡ some (Caller c) = at ∙ ap (λ (v : View). some v) is in
    let found : x ≡ 1 = idle_word bounds s r id c there at_rest in (
      Caller (with_standing c (leaving_job c.standing (job_in_hand me.1))),
      gives,
      tt,
      subst (λ (z : Bool × List (ℕ × Slot)). Lawful bounds (stepped s i (either z.0 2 x) id z.1 (Caller (with_standing c (leaving_job c.standing (job_in_hand z.1)))) gives))
          (λ j. (sym (eq-eqb x 1 found) j, sym hand j)) (post_keeps bounds s r id c there job lawful at_rest no_pass),
      (found, refl, refl),
    )

collects_at : (bounds : Bounds) (slots id : ℕ) (me : Sat) → let c : Known = known_of me.0 in me.0 ≡ Caller c → IsLeft c.standing
    → Allows (Lawful bounds) slots id me (own_word c.standing.number) (λ x. either (eqb x 4) 1 x) (Collects (step slots (own_word c.standing.number) 4 1 none) me)
collects_at bounds slots id me is left s r deep at small =
    let c : Known = known_of me.0 in let i : ℕ = own_word c.standing.number in let x : ℕ = get_or s.words i 0 in
    let there : get_elem? s.views id ≡ some (Caller c) = at ∙ ap (λ (v : View). some v) is in
    let knows = r.each_seat id (Caller c) there in
    let held = r.each_caller c.standing.number (inside bounds s r id c there) in
    dite (ℕ_discrete x 4)
    (λ hit. let at_end = code_done (r.station c.standing.number).stage (sym held.word_is ∙ hit) in
    let told = subst (StageHolds bounds r.line (part_of r.lock c.standing.number) (get_elem? s.homes (c.standing.number + 1)) c.standing.number (r.station c.standing.number)) at_end held.stage_holds in
    let new = collect_fate bounds s r id c there left (fate_of told.outcome) told.fate in
    let kind = collect_kind bounds s r id c there left told.outcome told.of_job in (
      Caller (with_standing c (collected bounds s r id c there new.0 new.1)),
      takes (c.standing.number + 1) (Told told.outcome),
      told.home_is,
      subst (λ b. Lawful bounds (stepped s i (either b 1 x) id me.1 (Caller (with_standing c (collected bounds s r id c there new.0 new.1))) (takes (c.standing.number + 1) (Told told.outcome)))) (sym (eq-eqb x 4 hit))
          (collect_keeps bounds s r id c there new.0 new.1 at_end new.2 new.3 new.4 new.5),
      ((λ _. (told.outcome, collected bounds s r id c there new.0 new.1, refl, refl, new.6, ((λ _. (new.4, refl)), begins_of_callers slots r.n new.0 r.line (sym deep ∙ r.deep) new.2 r.line_holds.no_strangers, new.3), kind)), λ miss. absurd (miss hit)),
    ))
    (λ miss. (
      me.0,
      keeps,
      tt,
      subst (λ b. Lawful bounds (stepped s i (either b 1 x) id me.1 me.0 keeps)) (sym (ne_eqb x 4 miss))
          (view_step bounds s r i id me.0 me.0 at refl (r.each_seat id me.0 at) (subst (λ vs. HolderSits vs r.station r.lock) (sym (set_again s.views id me.0 at)) r.holder_sits)),
      ((λ hit. absurd (miss hit)), λ _. (refl, not_true c.standing.settled (λ e. miss (held.word_is ∙ ap code (knows.settled.done e))))),
    ))

-- the same for a caller of this number, which has put its job into its slot
pub posts : (bounds : Bounds) (slots id k : ℕ) (old me : Sat) (job : Job) → IsLawfulJob job → me ≡ (old.0, (k + 1, Asked job) ∷ rest old.1) → old.0 ≡ Caller (known_of old.0) → (known_of old.0).standing.number ≡ k
    → (known_of old.0).standing.phase ≡ Idle → (known_of old.0).pass ≡ None → Allows (Lawful bounds) slots id me (own_word k) (λ x. either (eqb x 1) 2 x) (Posts (step slots (own_word k) 1 2 none) me)
posts bounds slots id k old me job lawful put is number at_rest no_pass =
    subst (λ (m : Sat). Allows (Lawful bounds) slots id m (own_word k) (λ x. either (eqb x 1) 2 x) (Posts (step slots (own_word k) 1 2 none) m)) (sym put)
    (subst (λ (z : ℕ). Allows (Lawful bounds) slots id (old.0, (z + 1, Asked job) ∷ rest old.1) (own_word z) (λ x. either (eqb x 1) 2 x) (Posts (step slots (own_word z) 1 2 none) (old.0, (z + 1, Asked job) ∷ rest old.1)))
    number (posts_at bounds slots id (old.0, ((known_of old.0).standing.number + 1, Asked job) ∷ rest old.1) job lawful is at_rest no_pass refl))

pub collects : (bounds : Bounds) (slots id k : ℕ) (me : Sat) → me.0 ≡ Caller (known_of me.0) → (known_of me.0).standing.number ≡ k → IsLeft (known_of me.0).standing
    → Allows (Lawful bounds) slots id me (own_word k) (λ x. either (eqb x 4) 1 x) (Collects (step slots (own_word k) 4 1 none) me)
collects bounds slots id k me is number left =
    subst (λ (z : ℕ). Allows (Lawful bounds) slots id me (own_word z) (λ x. either (eqb x 4) 1 x) (Collects (step slots (own_word z) 4 1 none) me)) number (collects_at bounds slots id me is left)

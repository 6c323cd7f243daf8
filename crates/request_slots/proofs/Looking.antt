-- A caller that looks, or meets another, keeps the rule.
-- `phase_along` carries a phase from what was seen to the line, `front_of` shows that what was seen is so. `looks` and `adopts` are
-- what the table asks of the two loads, `shows` and `sees` of the split and the join between two callers.
use Rattle.std.proofs.Common.{refl, ap, ◌≡◌, ◌⊎◌, ℕ, ◌+◌, ◌-◌, ◌≤◌, Bool, true, false, List, [], ◌∷◌, ◌++◌, length, get_or, set, nat_lt, if◌then◌else◌, Option, sym, ◌∙◌, subst, ⊎_elim, inl, inr, arith, append-nil}
use mathlib.Core.Option.{none, some}
use lib.ListN.{get_elem?}
use Rattle.atomic_table.specs.Table.{State, step, keeps, Allows, Splits, Joins}
use Rattle.atomic_table.proofs.Lists.{at_snoc, at_longer, set_else, set_again}
use Rattle.vector_memory.specs.declared.bounds.Bounds.{Bounds}
use Rattle.cvl_text.specs.declared.call.Call.{Call}
use Rattle.call_history.specs.declared.entry.Entry.{Entry}
use Rattle.call_history.specs.declared.request.Job.{Job}
use Rattle.call_history.specs.declared.request.Outcome.{Outcome}
use Rattle.call_history.specs.History.{Begins}
use Rattle.call_history.specs.Callers.{calls_by}
use Rattle.call_history.specs.Blocks.{Whole}
use Rattle.call_history.specs.Fits.{calls_of, Fate, StandsAt, CameBack, fate_of}
use Rattle.call_history.proofs.Beginnings.{begins_self, begins_empty, begins_trans, begins_shorter}
use Rattle.call_history.proofs.CallerLemmas.{calls_stay, calls_between}
use Rattle.request_slots.specs.declared.desk.Slot.{Slot}
use Rattle.request_slots.specs.declared.known.Pass.{Pass}
use Rattle.request_slots.specs.declared.known.Known.{Known}
use Rattle.request_slots.specs.declared.known.Phase.{Phase}
use Rattle.request_slots.specs.declared.known.Phase.TheVariants.{Idle, Left}
use Rattle.request_slots.specs.declared.known.View.{View}
use Rattle.request_slots.specs.declared.known.View.TheVariants.{Caller, Bare, Spent}
use Rattle.request_slots.specs.Stages.{Stage, unmade, idle, posted, taken, done, is_left, Station, Home, length_word, own_word}
use Rattle.request_slots.specs.Passes.{Part, part_of}
use Rattle.request_slots.specs.Locks.{HolderSits, sitter_of}
use Rattle.request_slots.specs.Requests.{FateHolds, ServedHolds, StageHolds, CallerHolds}
use Rattle.request_slots.specs.Fronts.{IsOfCallers}
use Rattle.request_slots.specs.Phases.{PhaseHolds}
use Rattle.request_slots.specs.Lawful.{CallerKnows, Knows, Lawful}
use Rattle.request_slots.specs.Standing.{left_calls, Rests, FrontHolds}
use Rattle.request_slots.specs.Changes.{longer, seeing}
use Rattle.request_slots.specs.Views.{with_standing, known_of, seen_in, informed, adopting}
use Rattle.request_slots.specs.Events.{Sat, Looks, Adopts}
use Rattle.request_slots.proofs.Holders.{holder_follows, holder_apart, holder_more, seats_apart}
use Rattle.request_slots.proofs.Carrying.{seats_after, view_change, view_step}
use Rattle.request_slots.proofs.Splitting.{Stands, NoneOrStands, stands_answered, stands_split}

pub not_true : (b : Bool) → (b ≡ true → ⊥) → b ≡ false
not_true true no_way = absurd (no_way refl)
not_true false no_way = refl

longer_is : (xs ys : List Entry) → ((longer xs ys ≡ xs) × (length ys ≤ length xs)) ⊎ ((longer xs ys ≡ ys) × (length xs ≤ length ys))
longer_is xs ys = go (nat_lt (length xs) (length ys)) refl
  where
    go : (b : Bool) → nat_lt (length xs) (length ys) ≡ b → (((if b then ys else xs) ≡ xs) × (length ys ≤ length xs)) ⊎ (((if b then ys else xs) ≡ ys) × (length xs ≤ length ys))
    go true e = inr (refl, grind (arith, e))
    go false e = inl (refl, grind (arith, e))

-- the longer of two beginnings of one history begins with both
pub longer_begins : (xs ys line : List Entry) → Begins xs line → Begins ys line → Begins xs (longer xs ys) × Begins ys (longer xs ys) × Begins (longer xs ys) line
longer_begins xs ys line p q = ⊎_elim
    (λ (t : (longer xs ys ≡ xs) × (length ys ≤ length xs)). subst (λ l. Begins xs l × Begins ys l × Begins l line) (sym t.0) (begins_self xs, begins_shorter ys xs line q p t.1, p))
    (λ (t : (longer xs ys ≡ ys) × (length xs ≤ length ys)). subst (λ l. Begins xs l × Begins ys l × Begins l line) (sym t.0) (begins_shorter xs ys line p q t.1, begins_self ys, q))
    (longer_is xs ys)

pub longer_whole : (xs ys : List Entry) → Whole xs → Whole ys → Whole (longer xs ys)
longer_whole xs ys p q = ⊎_elim (λ (t : (longer xs ys ≡ xs) × (length ys ≤ length xs)). subst Whole (sym t.0) p) (λ (t : (longer xs ys ≡ ys) × (length xs ≤ length ys)). subst Whole (sym t.0) q) (longer_is xs ys)

-- A caller's own calls along the line are its record, or also those that it left, next to one another
fate_calls : (bounds : Bounds) (line : List Entry) (k : ℕ) (own calls : List Call) (start : List Entry) (fate : Fate) → FateHolds bounds line k own calls start fate
    → NoneOrStands k own calls line
fate_calls bounds line k own calls start (StandsAt place replies) h = inr (stands_answered bounds start line k own calls (place + length calls) replies h.1 h.2)
fate_calls bounds line k own calls start (CameBack back) h = inl h.1

served_calls : (bounds : Bounds) (line : List Entry) (outcome : Option Outcome) (k : ℕ) (own : List Call) (job : Job) (start : List Entry) (committed : Bool) → ServedHolds bounds line outcome k own job start committed
    → NoneOrStands k own (calls_of job) line
served_calls bounds line outcome k own job start false h = inl h
served_calls bounds line outcome k own job start true h = fate_calls bounds line k own (calls_of job) start (fate_of h.0) h.3

left_calls_hold : (bounds : Bounds) (line : List Entry) (part : Part) (home : Home) (k : ℕ) (s : Station) (stage : Stage) → is_left stage ≡ true → StageHolds bounds line part home k s stage
    → NoneOrStands k s.own (calls_of s.job) line
left_calls_hold bounds line part home k s unmade e h = absurd (cc e)
left_calls_hold bounds line part home k s idle e h = absurd (cc e)
left_calls_hold bounds line part home k s posted e h = inl h.own_is
left_calls_hold bounds line part home k s taken e h = served_calls bounds line part.outcome k s.own s.job s.start part.committed h.served
left_calls_hold bounds line part home k s done e h = fate_calls bounds line k s.own (calls_of s.job) s.start (fate_of h.outcome) h.fate

-- what a phase says of the line
calls_of_line : (bounds : Bounds) (line : List Entry) (part : Part) (word : ℕ) (home : Home) (k : ℕ) (seen : List Entry) (own : List Call) (s : Station) (phase : Phase)
    → CallerHolds bounds line part word home k s → own ≡ s.own → PhaseHolds k seen own s phase → NoneOrStands k own (left_calls phase) line
calls_of_line bounds line part word home k seen own s Idle h same p = let rests = subst (StageHolds bounds line part home k s) p.stage_is h.stage_holds in inl (rests.own_is ∙ sym same)
calls_of_line bounds line part word home k seen own s (Left job start) h same p =
    subst (λ (z : List Call × Job). NoneOrStands k z.0 (calls_of z.1) line) (λ i. (sym same i, sym p.job_is i)) (left_calls_hold bounds line part home k s s.stage p.left h.stage_holds)

-- the same for a caller of the table
pub line_calls : (bounds : Bounds) (s : State Slot View) (r : Lawful bounds s) (id : ℕ) (c : Known) → Knows bounds r.n r.made r.line r.lock r.station id (Caller c)
    → NoneOrStands c.standing.number c.standing.own (left_calls c.standing.phase) r.line
line_calls bounds s r id c knows = calls_of_line bounds r.line (part_of r.lock c.standing.number) (get_or s.words (own_word c.standing.number) 0) (get_elem? s.homes (c.standing.number + 1)) c.standing.number c.standing.seen c.standing.own (r.station c.standing.number) c.standing.phase
    (r.each_caller c.standing.number knows.inside) knows.own_is knows.phase

-- what a phase says stays true of what is between a caller's front and the line, and cuts no block
phase_between : (k : ℕ) (xs ys zs : List Entry) (own : List Call) (s : Station) (phase : Phase) → Begins xs ys → Begins ys zs → Whole ys → NoneOrStands k own (left_calls phase) zs → PhaseHolds k xs own s phase → PhaseHolds k ys own s phase
phase_between k xs ys zs own s Idle p q whole high low = record { stage_is = low.stage_is; own_is = calls_between k xs ys zs own p q low.own_is (⊎_elim (λ (e : calls_by k zs ≡ own). e) (λ (t : Stands k own [] zs). t.all ∙ append-nil own) high) }
phase_between k xs ys zs own s (Left job start) p q whole high low = record {
  left = low.left;
  job_is = low.job_is;
  start_is = low.start_is;
  begins = begins_trans start xs ys low.begins p;
  own_is = go (calls_of job) low.own_is high;
  lawful = low.lawful;
}
  where
    go : (calls : List Call) → (calls_by k xs ≡ own) ⊎ (calls_by k xs ≡ own ++ calls) → NoneOrStands k own calls zs → (calls_by k ys ≡ own) ⊎ (calls_by k ys ≡ own ++ calls)
    go calls (inl a) (inl b) = inl (calls_between k xs ys zs own p q a b)
    go calls (inl a) (inr b) = stands_split k xs ys zs own calls p q whole a b
    go calls (inr a) (inl b) = inl (calls_between k xs ys zs own p q (calls_stay k xs zs own calls (begins_trans xs ys zs p q) a b) b)
    go calls (inr a) (inr b) = inr (calls_between k xs ys zs (own ++ calls) p q a b.all)

-- and of the line
pub phase_along : (bounds : Bounds) (s : State Slot View) (r : Lawful bounds s) (id : ℕ) (c : Known) → Knows bounds r.n r.made r.line r.lock r.station id (Caller c)
    → PhaseHolds c.standing.number r.line c.standing.own (r.station c.standing.number) c.standing.phase
phase_along bounds s r id c knows = phase_between c.standing.number c.standing.seen r.line r.line c.standing.own (r.station c.standing.number) c.standing.phase knows.fronts.seen_begins (begins_self r.line) r.line_holds.whole
    (line_calls bounds s r id c knows) knows.phase

-- an idle caller has its record in what it has seen, and is not settled
rests_of : {bounds : Bounds} {n made : ℕ} {line : List Entry} {pass : Option Pass} {mine : Station} {has_held : ℕ → Bool} {seat : ℕ} {c : Known} → CallerKnows bounds n made line pass mine has_held seat c → Rests c.standing
rests_of {mine} {c} knows at_rest =
    let phase = subst (PhaseHolds c.standing.number c.standing.seen c.standing.own mine) at_rest knows.phase in
    (phase.own_is, not_true c.standing.settled (λ e. cc (knows.settled.done e, phase.stage_is)))

-- what begins a history of callers of the table is of these callers too
pub begins_of_callers : (slots n : ℕ) (seen line : List Entry) → slots ≡ n + 1 → Begins seen line → IsOfCallers n line → IsOfCallers (slots - 1) seen
begins_of_callers slots n seen line sized saw all k far = calls_between k [] seen line [] (begins_empty seen) saw refl (all k (omega arith))

-- what a caller knows by the rule holds of what it has seen
pub front_of : (slots : ℕ) {bounds : Bounds} {n made : ℕ} {line : List Entry} {pass : Option Pass} {mine : Station} {has_held : ℕ → Bool} {seat : ℕ} {c : Known} → slots ≡ n + 1 → IsOfCallers n line
    → CallerKnows bounds n made line pass mine has_held seat c → FrontHolds (slots - 1) c.standing
front_of slots {n} {line} {c} sized all knows = (rests_of knows, begins_of_callers slots n c.standing.seen line sized knows.fronts.seen_begins all, knows.fronts.seen_whole)

-- a caller that sees more of the line
sees_more : (bounds : Bounds) (s : State Slot View) (r : Lawful bounds s) (id : ℕ) (c : Known) (seen : List Entry) → Knows bounds r.n r.made r.line r.lock r.station id (Caller c) → Begins seen r.line → Begins c.standing.seen seen → Whole seen
    → Knows bounds r.n r.made r.line r.lock r.station id (Caller (with_standing c (seeing c.standing seen)))
sees_more bounds s r id c seen knows saw longer whole = record {
  number_made = knows.number_made;
  inside = knows.inside;
  seat_is = knows.seat_is;
  bounds_is = knows.bounds_is;
  own_is = knows.own_is;
  fronts = record { seen_begins = saw; told_begins = knows.fronts.told_begins; start_begins = knows.fronts.start_begins; seen_whole = whole; told_whole = knows.fronts.told_whole };
  pass_is = knows.pass_is;
  phase = phase_between c.standing.number c.standing.seen seen r.line c.standing.own (r.station c.standing.number) c.standing.phase longer saw whole (line_calls bounds s r id c knows) knows.phase;
  settled = knows.settled;
  notes = knows.notes;
}

told_knows : (bounds : Bounds) (s : State Slot View) (r : Lawful bounds s) (id : ℕ) (c : Known) (seen : List Entry) → Knows bounds r.n r.made r.line r.lock r.station id (Caller c) → Begins seen r.line → Whole seen
    → Knows bounds r.n r.made r.line r.lock r.station id (Caller (informed c seen))
told_knows bounds s r id c seen knows saw whole = record {
  number_made = knows.number_made;
  inside = knows.inside;
  seat_is = knows.seat_is;
  bounds_is = knows.bounds_is;
  own_is = knows.own_is;
  fronts = record { seen_begins = knows.fronts.seen_begins; told_begins = saw; start_begins = knows.fronts.start_begins; seen_whole = knows.fronts.seen_whole; told_whole = whole };
  pass_is = knows.pass_is;
  phase = knows.phase;
  settled = knows.settled;
  notes = knows.notes;
}

pub looks : (bounds : Bounds) (slots id : ℕ) (me : Sat) → me.0 ≡ Caller (known_of me.0) → Allows (Lawful bounds) slots id me length_word (λ x. x) (Looks (step slots length_word 0 0 none) me)
looks bounds slots id me is s r deep at small =
    let c : Known = known_of me.0 in
    let there : get_elem? s.views id ≡ some (Caller c) = at ∙ ap (λ (v : View). some v) is in
    let knows = r.each_seat id (Caller c) there in
    let after = sees_more bounds s r id c r.line knows (begins_self r.line) knows.fronts.seen_begins r.line_holds.whole in (
      Caller (with_standing c (seeing c.standing r.line)),
      keeps,
      tt,
      view_step bounds s r length_word id (Caller c) (Caller (with_standing c (seeing c.standing r.line))) there refl after
          (holder_follows s.views r.station r.station r.lock id c (with_standing c (seeing c.standing r.line)) there refl (λ _. refl) knows.seat_is knows.pass_is r.holder_sits),
      (r.line, r.line_holds.length_is, knows.fronts.seen_begins, refl, front_of slots (sym deep ∙ r.deep) r.line_holds.no_strangers after),
    )

pub shows : (bounds : Bounds) (id : ℕ) (v : View) → v ≡ Caller (known_of v) → Splits (Lawful bounds) id v v (Bare (known_of v).standing.seen)
shows bounds id v is s r at =
    let knows = subst (Knows bounds r.n r.made r.line r.lock r.station id) is (r.each_seat id v at) in
    let bare : View = Bare (known_of v).standing.seen in
    let seats : (j : ℕ) (w : View) → get_elem? (set s.views id v ++ bare ∷ []) j ≡ some w → Knows bounds r.n r.made r.line r.lock r.station j w =
    λ j w e. ⊎_elim (seats_after (Knows bounds r.n r.made r.line r.lock r.station) (Knows bounds r.n r.made r.line r.lock r.station) s.views id v (r.each_seat id v at) (λ i other x h. h) r.each_seat j w)
    (λ (t : bare ≡ w). subst (Knows bounds r.n r.made r.line r.lock r.station j) t (knows.fronts.seen_begins, knows.fronts.seen_whole)) (at_snoc (set s.views id v) bare w j e) in
    record {
      n = r.n;
      made = r.made;
      line = r.line;
      lock = r.lock;
      station = r.station;
      wide = r.wide;
      deep = r.deep;
      not_made = r.not_made;
      line_holds = r.line_holds;
      lock_holds = r.lock_holds;
      holder_sits = holder_more (set s.views id v) bare r.station r.lock (subst (λ vs. HolderSits vs r.station r.lock) (sym (set_again s.views id v at)) r.holder_sits);
      sit_apart = seats_apart bounds r.n r.made r.line r.lock r.station (set s.views id v ++ bare ∷ []) seats;
      made_sit = λ k lt. let sit = r.made_sit k lt in
          (sit.0, at_longer (set s.views id v) (bare ∷ []) (r.station k).seat sit.0 (subst (λ vs. get_elem? vs (r.station k).seat ≡ some sit.0) (sym (set_again s.views id v at)) sit.1), sit.2);
      each_caller = r.each_caller;
      each_seat = seats;
    }

pub sees : (bounds : Bounds) (id other : ℕ) (v w : View) → v ≡ Caller (known_of v) → w ≡ Bare (seen_in w) → Joins (Lawful bounds) id v other w (Caller (informed (known_of v) (seen_in w))) Spent
sees bounds id other v w is bare s r at apart there =
    let knows = subst (Knows bounds r.n r.made r.line r.lock r.station id) is (r.each_seat id v at) in
    let both : View = Caller (informed (known_of v) (seen_in w)) in
    let saw : Begins (seen_in w) r.line × Whole (seen_in w) = subst (Knows bounds r.n r.made r.line r.lock r.station other) bare (r.each_seat other w (sym (set_else s.views id other both apart) ∙ there)) in
    let s' : State Slot View = record { words = s.words; homes = s.homes; views = set s.views id both } in
    let held = holder_follows s.views r.station r.station r.lock id (known_of v) (informed (known_of v) (seen_in w)) (at ∙ ap (λ (u : View). some u) is) refl (λ _. refl) knows.seat_is knows.pass_is r.holder_sits in
    let mid = view_change bounds s r id (Caller (known_of v)) both (at ∙ ap (λ (u : View). some u) is) refl (told_knows bounds s r id (known_of v) (seen_in w) knows saw.0 saw.1) held in
    view_change bounds s' mid other w Spent there (sym (ap sitter_of bare)) tt
    (holder_apart s'.views mid.station mid.station mid.lock other w Spent there (λ c e. let t : Bare (seen_in w) ≡ Caller c = sym bare ∙ e in absurd (cc t)) (λ _ _ _. refl) mid.holder_sits)

pub adopts : (bounds : Bounds) (slots id : ℕ) (me : Sat) → me.0 ≡ Caller (known_of me.0) → Allows (Lawful bounds) slots id me length_word (λ x. x) (Adopts (step slots length_word 0 0 none) me)
adopts bounds slots id me is s r deep at small =
    let c : Known = known_of me.0 in
    let knows = subst (Knows bounds r.n r.made r.line r.lock r.station id) is (r.each_seat id me.0 at) in
    let both = longer_begins c.standing.seen c.told r.line knows.fronts.seen_begins knows.fronts.told_begins in
    let after = sees_more bounds s r id c (longer c.standing.seen c.told) knows both.2 both.0 (longer_whole c.standing.seen c.told knows.fronts.seen_whole knows.fronts.told_whole) in (
      Caller (adopting c),
      keeps,
      tt,
      view_step bounds s r length_word id (Caller c) (Caller (adopting c)) (at ∙ ap (λ (v : View). some v) is) refl after
          (holder_follows s.views r.station r.station r.lock id c (adopting c) (at ∙ ap (λ (v : View). some v) is) refl (λ _. refl) knows.seat_is knows.pass_is r.holder_sits),
      (both.0, both.1, refl, front_of slots (sym deep ∙ r.deep) r.line_holds.no_strangers after),
    )

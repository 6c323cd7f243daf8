-- What a step of one caller leaves to the others.
-- `put` changes the station of one caller. `Abides` is what a seat may rely on of a station that a step of another changes, and
-- `others_know` carries what all other seats know over any step.
use Rattle.std.proofs.Common.{◌≡◌, ◌≢◌, ℕ, Bool, true, List, Option, refl, sym, ap, ◌∙◌, subst}
use mathlib.Core.Logic.{dite}
use native.Mathlib.Decide.{ℕ_discrete}
use Rattle.vector_memory.specs.declared.bounds.Bounds.{Bounds}
use Rattle.cvl_text.specs.declared.call.Call.{Call}
use Rattle.call_history.specs.declared.entry.Entry.{Entry}
use Rattle.call_history.specs.History.{Begins}
use Rattle.call_history.proofs.Beginnings.{begins_trans}
use Rattle.request_slots.specs.declared.known.Pass.{Pass}
use Rattle.request_slots.specs.declared.known.Known.{Known}
use Rattle.request_slots.specs.declared.known.Phase.{Phase}
use Rattle.request_slots.specs.declared.known.Phase.TheVariants.{Idle, Left}
use Rattle.request_slots.specs.declared.known.View.{View}
use Rattle.request_slots.specs.declared.known.View.TheVariants.{Maker, Newcomer, Caller, Bare, Spent}
use Rattle.request_slots.specs.Stages.{unmade, idle, posted, done, is_left, Station}
use Rattle.request_slots.specs.Passes.{Lock, pass_of}
use Rattle.request_slots.specs.Fronts.{FrontsBegin}
use Rattle.request_slots.specs.Phases.{PhaseHolds, SettledHolds}
use Rattle.request_slots.specs.Notes.{NotesHold}
use Rattle.request_slots.specs.Lawful.{CallerKnows, Knows}
use Rattle.request_slots.specs.Standing.{left_start}

abbrev pick : {A P : Type 0} → Dec P → A → A → A
pick (yes _) a b = a
pick (no _) a b = b

module _ {A : Type 0} where
  -- f, but a at i
  pub put : (ℕ → A) → ℕ → A → ℕ → A
  put f i a j = pick (ℕ_discrete j i) a (f j)

  pub put_here : (f : ℕ → A) (i : ℕ) (a : A) → put f i a i ≡ a
  unfolding put
  put_here f i a = go (ℕ_discrete i i)
    where
      go : (d : Dec (i ≡ i)) → pick d a (f i) ≡ a
      go (yes _) = refl
      go (no n) = absurd (n refl)

  pub put_else : (f : ℕ → A) (i : ℕ) (a : A) (j : ℕ) → j ≢ i → put f i a j ≡ f j
  unfolding put
  put_else f i a j other = go (ℕ_discrete j i)
    where
      go : (d : Dec (j ≡ i)) → pick d a (f j) ≡ f j
      go (yes e) = absurd (other e)
      go (no _) = refl

-- what another seat may rely on of a station
pub record Abides (s s' : Station) : Type 0 where
  pub seat : s'.seat ≡ s.seat
  pub own : s'.own ≡ s.own
  pub job : s'.job ≡ s.job
  pub start : s'.start ≡ s.start
  pub held : s'.held ≡ s.held
  pub left : is_left s'.stage ≡ is_left s.stage
  pub unmade_stays : s.stage ≡ unmade → s'.stage ≡ unmade
  pub idle_stays : s.stage ≡ idle → s'.stage ≡ idle
  pub done_stays : s.stage ≡ done → s'.stage ≡ done
  pub posted_stood : s'.stage ≡ posted → s.stage ≡ posted

pub abides_self : (s : Station) → Abides s s
abides_self s = record { seat = refl; own = refl; job = refl; start = refl; held = refl; left = refl; unmade_stays = λ e. e; idle_stays = λ e. e; done_stays = λ e. e; posted_stood = λ e. e }

abides_same : (s s' : Station) → s' ≡ s → Abides s s'
abides_same s s' e = subst (Abides s) (sym e) (abides_self s)

pub put_rises : (station : ℕ → Station) (k : ℕ) (st : Station) → ((station k).held ≡ true → st.held ≡ true) → (m : ℕ) → (station m).held ≡ true → (put station k st m).held ≡ true
put_rises station k st up m e = dite (ℕ_discrete m k) (λ same. subst (λ (z : ℕ). (put station k st z).held ≡ true) (sym same)
    (subst (λ (z : Station). z.held ≡ true) (sym (put_here station k st)) (up (subst (λ (z : ℕ). (station z).held ≡ true) same e))))
    (λ other. subst (λ (z : Station). z.held ≡ true) (sym (put_else station k st m other)) e)

pub put_abides : (station : ℕ → Station) (k : ℕ) (st : Station) (i : ℕ) → i ≢ k → Abides (station i) (put station k st i)
put_abides station k st i other = abides_same (station i) (put station k st i) (put_else station k st i other)

pub put_all_abide : (station : ℕ → Station) (i : ℕ) (st : Station) → Abides (station i) st → (m : ℕ) → Abides (station m) (put station i st m)
put_all_abide station i st here m = dite (ℕ_discrete m i)
    (λ same. subst (λ (z : ℕ). Abides (station z) (put station i st z)) (sym same) (subst (Abides (station i)) (sym (put_here station i st)) here))
    (λ other. put_abides station i st m other)

pub put_seat : (station : ℕ → Station) (k : ℕ) (st : Station) → st.seat ≡ (station k).seat → (m : ℕ) → (put station k st m).seat ≡ (station m).seat
put_seat station k st same m = dite (ℕ_discrete m k)
    (λ is. ap (λ (z : ℕ). (put station k st z).seat) is ∙ (ap (λ (z : Station). z.seat) (put_here station k st) ∙ (same ∙ ap (λ (z : ℕ). (station z).seat) (sym is))))
    (λ other. ap (λ (z : Station). z.seat) (put_else station k st m other))

pub fronts_grow : (line line' seen told start : List Entry) → Begins line line' → FrontsBegin line seen told start → FrontsBegin line' seen told start
fronts_grow line line' seen told start grows f = record {
  seen_begins = begins_trans seen line line' f.seen_begins grows;
  told_begins = begins_trans told line line' f.told_begins grows;
  start_begins = begins_trans start line line' f.start_begins grows;
  seen_whole = f.seen_whole;
  told_whole = f.told_whole;
}

pub phase_abides : (k : ℕ) (seen : List Entry) (own : List Call) (s s' : Station) → Abides s s' → (phase : Phase) → PhaseHolds k seen own s phase → PhaseHolds k seen own s' phase
phase_abides k seen own s s' a Idle h = record { stage_is = a.idle_stays h.stage_is; own_is = h.own_is }
phase_abides k seen own s s' a (Left job start) h = record {
  left = a.left ∙ h.left;
  job_is = h.job_is ∙ sym a.job;
  start_is = h.start_is ∙ sym a.start;
  begins = h.begins;
  own_is = h.own_is;
  lawful = h.lawful;
}

settled_abides : (k : ℕ) (settled : Bool) (pass : Option Pass) (s s' : Station) → Abides s s' → SettledHolds k settled pass s.stage → SettledHolds k settled pass s'.stage
settled_abides k settled pass s s' a h = record { done = λ e. a.done_stays (h.done e); tried = λ p e t post. h.tried p e t (a.posted_stood post) }

-- notes stay true while more callers come to have had the desk
pub notes_rise : (n k : ℕ) (held had had' : Bool) (met : List ℕ) (pass : Option Pass) (has_held has_held' : ℕ → Bool) → had' ≡ had → ((m : ℕ) → has_held m ≡ true → has_held' m ≡ true)
    → NotesHold n k held had met pass has_held → NotesHold n k held had' met pass has_held'
notes_rise n k held had had' met pass has_held has_held' same rises h = record {
  held_is = h.held_is ∙ sym same;
  holder_held = h.holder_held;
  others_held = λ m e. let t = h.others_held m e in (t.0, t.1, rises m t.2);
}

-- the seat of a caller that a step does not touch, along a line that may have grown
pub caller_abides : (bounds : Bounds) (n made : ℕ) (line line' : List Entry) (pass pass' : Option Pass) (s s' : Station) (has_held has_held' : ℕ → Bool) (seat : ℕ) (c : Known)
    → Begins line line' → pass' ≡ pass → Abides s s' → ((m : ℕ) → has_held m ≡ true → has_held' m ≡ true)
    → CallerKnows bounds n made line pass s has_held seat c → CallerKnows bounds n made line' pass' s' has_held' seat c
caller_abides bounds n made line line' pass pass' s s' has_held has_held' seat c grows same a rises k = record {
  number_made = k.number_made;
  inside = k.inside;
  seat_is = a.seat ∙ k.seat_is;
  bounds_is = k.bounds_is;
  own_is = k.own_is ∙ sym a.own;
  fronts = fronts_grow line line' c.standing.seen c.told (left_start c.standing.phase) grows k.fronts;
  pass_is = k.pass_is ∙ sym same;
  phase = phase_abides c.standing.number c.standing.seen c.standing.own s s' a c.standing.phase k.phase;
  settled = settled_abides c.standing.number c.standing.settled c.pass s s' a k.settled;
  notes = notes_rise n c.standing.number c.standing.held s.held s'.held c.standing.met c.pass has_held has_held' a.held rises k.notes;
}

-- A step by the caller k, whose seat is `me`: what each other seat knows stays
pub others_know : (bounds : Bounds) (n made : ℕ) (line line' : List Entry) (lock lock' : Lock) (station station' : ℕ → Station) (k me : ℕ)
    → (station k).seat ≡ me → Begins line line' → ((i : ℕ) → i ≢ k → pass_of lock' i ≡ pass_of lock i) → ((i : ℕ) → i ≢ k → Abides (station i) (station' i))
    → ((m : ℕ) → (station m).held ≡ true → (station' m).held ≡ true)
    → (j : ℕ) → j ≢ me → (v : View) → Knows bounds n made line lock station j v → Knows bounds n made line' lock' station' j v
others_know bounds n made line line' lock lock' station station' k me mine grows passes abides rises j other (Maker q m) h = h
others_know bounds n made line line' lock lock' station station' k me mine grows passes abides rises j other (Newcomer q i) h =
    let apart : i ≢ k = λ e. other (sym h.seat_is ∙ (ap (λ (n : ℕ). (station n).seat) e ∙ mine)) in let a = abides i apart in
    record { number_made = h.number_made; seat_is = a.seat ∙ h.seat_is; bounds_is = h.bounds_is; stage_is = a.unmade_stays h.stage_is; not_held = a.held ∙ h.not_held }
others_know bounds n made line line' lock lock' station station' k me mine grows passes abides rises j other (Caller c) h =
    let apart : c.standing.number ≢ k = λ e. other (sym h.seat_is ∙ (ap (λ (n : ℕ). (station n).seat) e ∙ mine)) in
    caller_abides bounds n made line line' (pass_of lock c.standing.number) (pass_of lock' c.standing.number) (station c.standing.number) (station' c.standing.number) (λ m. (station m).held) (λ m. (station' m).held) j c
    grows (passes c.standing.number apart) (abides c.standing.number apart) rises h
others_know bounds n made line line' lock lock' station station' k me mine grows passes abides rises j other (Bare seen) h = (begins_trans seen line line' h.0 grows, h.1)
others_know bounds n made line line' lock lock' station station' k me mine grows passes abides rises j other Spent h = tt

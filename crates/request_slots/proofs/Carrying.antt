-- What a step leaves of the rule, by where it steps.
-- `caller_step` is a step on the word and the slot of a caller, `lock_step` one on the lock and the desk, `view_step` one that
-- changes no word and no slot. Each asks for what is new, and carries the rest of the rule.
use Rattle.std.proofs.Common.{◌≡◌, ◌≢◌, ℕ, ◌+◌, ◌<◌, ◌≤◌, Bool, List, length, get_or, set, None, refl, sym, ◌∙◌, subst, ⊎_elim, arith, lt_of_not-le, length-set, get_or-set_other, get_or-set_same}
use mathlib.Core.Logic.{dite}
use mathlib.Core.Option.{some}
use mathlib.Core.Option as maybe
use native.Mathlib.Decide.{ℕ_discrete}
use lib.ListN.{get_elem?}
use lib.Seq.{set-get_or}
use Rattle.atomic_table.specs.Table.{State}
use Rattle.atomic_table.proofs.Lists.{at_set, set_here, set_else}
use Rattle.vector_memory.specs.declared.bounds.Bounds.{Bounds}
use Rattle.call_history.specs.declared.entry.Entry.{Entry}
use Rattle.request_slots.specs.declared.desk.Slot.{Slot}
use Rattle.request_slots.specs.declared.known.View.{View}
use Rattle.request_slots.specs.Stages.{Stage, unmade, idle, posted, taken, done, Station, Home, length_word, own_word}
use Rattle.request_slots.specs.Passes.{Lock, Part, part_of}
use Rattle.request_slots.specs.Locks.{LockHolds, HolderSits, sitter_of}
use Rattle.request_slots.specs.Requests.{StageHolds, request_at, CallerHolds}
use Rattle.request_slots.specs.Lawful.{Knows, IsNotMade, Lawful}
use Rattle.request_slots.proofs.Stations.{put, put_here, put_else, put_seat}
use Rattle.request_slots.proofs.Holders.{seats_apart, made_sit_after}

-- all seats after a step: the stepper's own view, and each other's as it was
pub seats_after : (F F' : ℕ → View → Type 0) (views : List View) (me : ℕ) (w : View) → F' me w → ((j : ℕ) → j ≢ me → (v : View) → F j v → F' j v)
    → ((j : ℕ) (v : View) → get_elem? views j ≡ some v → F j v) → (j : ℕ) (v : View) → get_elem? (set views me w) j ≡ some v → F' j v
seats_after F F' views me w mine others all j v e =
    ⊎_elim (λ (t : (j ≡ me) × (w ≡ v)). subst (λ (x : ℕ × View). F' x.0 x.1) (λ i. (sym t.0 i, t.1 i)) mine)
    (λ (t : (j ≢ me) × (get_elem? views j ≡ some v)). others j t.0 v (all j v t.1)) (at_set views me j w v e)

-- a station at which it is known whether the caller ever had the desk
abbrev pub noted : Station → Bool → Station
noted s held = record { stage = s.stage; seat = s.seat; own = s.own; job = s.job; start = s.start; held = held }

-- A caller of whom a pass has nothing does not see which pass it is
pub part_free : (bounds : Bounds) (line : List Entry) (part part' : Part) (word : ℕ) (home : Home) (k : ℕ) (s : Station) (held : Bool) → part.request ≡ None → part'.request ≡ None
    → CallerHolds bounds line part word home k s → CallerHolds bounds line part' word home k (noted s held)
part_free bounds line part part' word home k s held nothing nothing' h = record {
  word_is = h.word_is;
  request_is = nothing' ∙ (sym nothing ∙ h.request_is);
  stage_holds = go s.stage (sym nothing ∙ h.request_is) h.stage_holds;
}
  where
    go : (stage : Stage) → None ≡ request_at stage s.job → StageHolds bounds line part home k s stage → StageHolds bounds line part' home k (noted s held) stage
    go unmade e t = t
    go idle e t = t
    go posted e t = t
    go taken e t = absurd (cc e)
    go done e t = t

-- a caller whose word and slot a step does not touch
caller_stays : (bounds : Bounds) (line : List Entry) (part part' : Part) (words words' : List ℕ) (homes homes' : List (maybe.Option Slot)) (k : ℕ) (s s' : Station) → part' ≡ part → s' ≡ s
    → get_or words' (own_word k) 0 ≡ get_or words (own_word k) 0 → get_elem? homes' (k + 1) ≡ get_elem? homes (k + 1)
    → CallerHolds bounds line part (get_or words (own_word k) 0) (get_elem? homes (k + 1)) k s → CallerHolds bounds line part' (get_or words' (own_word k) 0) (get_elem? homes' (k + 1)) k s'
caller_stays bounds line part part' words words' homes homes' k s s' same_part same_station same_word same_home h =
    subst (λ (x : Part × ℕ × Home × Station). CallerHolds bounds line x.0 x.1 x.2 k x.3) (λ i. (sym same_part i, sym same_word i, sym same_home i, sym same_station i)) h

-- all callers after a step on the word and the slot of caller i
callers_after : (bounds : Bounds) (n : ℕ) (line : List Entry) (part part' : ℕ → Part) (words : List ℕ) (homes : List (maybe.Option Slot)) (station : ℕ → Station) (i : ℕ) (st : Station) (x : ℕ) (y : maybe.Option Slot)
    → length words ≡ own_word n → length homes ≡ n + 1 → i < n → ((k : ℕ) → k ≢ i → part' k ≡ part k) → CallerHolds bounds line (part' i) x (some y) i st
    → ((k : ℕ) → k < n → CallerHolds bounds line (part k) (get_or words (own_word k) 0) (get_elem? homes (k + 1)) k (station k))
    → (k : ℕ) → k < n → CallerHolds bounds line (part' k) (get_or (set words (own_word i) x) (own_word k) 0) (get_elem? (set homes (i + 1) y) (k + 1)) k (put station i st k)
callers_after bounds n line part part' words homes station i st x y wide deep inside parts here all k lt =
    dite (ℕ_discrete k i)
    (λ same. subst (λ (z : ℕ). CallerHolds bounds line (part' z) (get_or (set words (own_word i) x) (own_word z) 0) (get_elem? (set homes (i + 1) y) (z + 1)) z (put station i st z)) (sym same)
    (subst (λ (z : ℕ × Home × Station). CallerHolds bounds line (part' i) z.0 z.1 i z.2)
    (λ j. (sym (get_or-set_same words (own_word i) x 0 (omega arith)) j, sym (set_here homes (i + 1) y (omega arith)) j, sym (put_here station i st) j)) here))
    (λ other. caller_stays bounds line (part k) (part' k) words (set words (own_word i) x) homes (set homes (i + 1) y) k (station k) (put station i st k) (parts k other) (put_else station i st k other)
    (get_or-set_other words (own_word i) (own_word k) x 0 (λ e. other (omega arith))) (set_else homes (i + 1) (k + 1) y (λ e. other (omega arith))) (all k lt))

-- the table after a step on the word and the slot of caller i, by the seat `me`
abbrev pub moved : State Slot View → ℕ → ℕ → maybe.Option Slot → ℕ → View → State Slot View
moved s i x y me w = record { words = set s.words (own_word i) x; homes = set s.homes (i + 1) y; views = set s.views me w }

pub caller_step : (bounds : Bounds) (s : State Slot View) (r : Lawful bounds s) (i x : ℕ) (y : maybe.Option Slot) (st : Station) (lock : Lock) (me : ℕ) (v w : View) → i < r.n → i < r.made
    → get_elem? s.views me ≡ some v → sitter_of w ≡ sitter_of v → st.seat ≡ (r.station i).seat
    → ((k : ℕ) → k ≢ i → part_of lock k ≡ part_of r.lock k) → CallerHolds bounds r.line (part_of lock i) x (some y) i st
    → LockHolds bounds r.n r.line (get_or s.words 0 0) (get_elem? s.homes 0) lock
    → Knows bounds r.n r.made r.line lock (put r.station i st) me w
    → ((j : ℕ) → j ≢ me → (v : View) → Knows bounds r.n r.made r.line r.lock r.station j v → Knows bounds r.n r.made r.line lock (put r.station i st) j v)
    → HolderSits (set s.views me w) (put r.station i st) lock → Lawful bounds (moved s i x y me w)
caller_step bounds s r i x y st lock me v w inside made there same seat parts here locked mine others holder =
    let seats = seats_after (Knows bounds r.n r.made r.line r.lock r.station) (Knows bounds r.n r.made r.line lock (put r.station i st)) s.views me w mine others r.each_seat in
    record {
      n = r.n;
      made = r.made;
      line = r.line;
      lock = lock;
      station = put r.station i st;
      wide = length-set s.words (own_word i) x ∙ r.wide;
      deep = length-set s.homes (i + 1) y ∙ r.deep;
      not_made = λ k above. subst IsNotMade (sym (put_else r.station i st k (λ e. omega arith))) (r.not_made k above);
      line_holds = record { length_is = get_or-set_other s.words (own_word i) length_word x 0 (λ e. omega arith) ∙ r.line_holds.length_is; whole = r.line_holds.whole; no_strangers = r.line_holds.no_strangers };
      lock_holds = subst (λ (z : ℕ × Home). LockHolds bounds r.n r.line z.0 z.1 lock)
          (λ j. (sym (get_or-set_other s.words (own_word i) 0 x 0 (λ e. omega arith)) j, sym (set_else s.homes (i + 1) 0 y (λ e. omega arith)) j)) locked;
      holder_sits = holder;
      sit_apart = seats_apart bounds r.n r.made r.line lock (put r.station i st) (set s.views me w) seats;
      made_sit = made_sit_after s.views r.station (put r.station i st) r.made me v w there same (put_seat r.station i st seat) r.made_sit;
      each_caller = callers_after bounds r.n r.line (part_of r.lock) (part_of lock) s.words s.homes r.station i st x y r.wide r.deep inside parts here r.each_caller;
      each_seat = seats;
    }

-- the table after a step that changes no word and no slot
abbrev pub seen_by : State Slot View → ℕ → ℕ → View → State Slot View
seen_by s i me w = record { words = set s.words i (get_or s.words i 0); homes = s.homes; views = set s.views me w }

pub view_change : (bounds : Bounds) (s : State Slot View) (r : Lawful bounds s) (me : ℕ) (v w : View) → get_elem? s.views me ≡ some v → sitter_of w ≡ sitter_of v → Knows bounds r.n r.made r.line r.lock r.station me w → HolderSits (set s.views me w) r.station r.lock
    → Lawful bounds record { words = s.words; homes = s.homes; views = set s.views me w }
view_change bounds s r me v w there same mine holder =
    let seats = seats_after (Knows bounds r.n r.made r.line r.lock r.station) (Knows bounds r.n r.made r.line r.lock r.station) s.views me w mine (λ j other v h. h) r.each_seat in
    record {
      n = r.n;
      made = r.made;
      line = r.line;
      lock = r.lock;
      station = r.station;
      wide = r.wide;
      deep = r.deep;
      not_made = r.not_made;
      line_holds = r.line_holds;
      lock_holds = r.lock_holds;
      holder_sits = holder;
      sit_apart = seats_apart bounds r.n r.made r.line r.lock r.station (set s.views me w) seats;
      made_sit = made_sit_after s.views r.station r.station r.made me v w there same (λ _. refl) r.made_sit;
      each_caller = r.each_caller;
      each_seat = seats;
    }

pub view_step : (bounds : Bounds) (s : State Slot View) (r : Lawful bounds s) (i me : ℕ) (v w : View) → get_elem? s.views me ≡ some v → sitter_of w ≡ sitter_of v → Knows bounds r.n r.made r.line r.lock r.station me w → HolderSits (set s.views me w) r.station r.lock → Lawful bounds (seen_by s i me w)
view_step bounds s r i me v w there same mine holder =
    subst (λ (ws : List ℕ). Lawful bounds record { words = ws; homes = s.homes; views = set s.views me w }) (sym (set-get_or s.words i 0)) (view_change bounds s r me v w there same mine holder)

-- the table after a step on the lock and the slot of the desk
abbrev pub handed : State Slot View → ℕ → maybe.Option Slot → ℕ → View → State Slot View
handed s x y me w = record { words = set s.words 0 x; homes = set s.homes 0 y; views = set s.views me w }

pub lock_step : (bounds : Bounds) (s : State Slot View) (r : Lawful bounds s) (x : ℕ) (y : maybe.Option Slot) (station : ℕ → Station) (lock : Lock) (me : ℕ) (v w : View)
    → get_elem? s.views me ≡ some v → sitter_of w ≡ sitter_of v → ((k : ℕ) → (station k).seat ≡ (r.station k).seat) → ((k : ℕ) → r.made ≤ k → IsNotMade (station k)) → LockHolds bounds r.n r.line x (some y) lock
    → ((k : ℕ) → k < r.n → CallerHolds bounds r.line (part_of lock k) (get_or s.words (own_word k) 0) (get_elem? s.homes (k + 1)) k (station k))
    → Knows bounds r.n r.made r.line lock station me w
    → ((j : ℕ) → j ≢ me → (v : View) → Knows bounds r.n r.made r.line r.lock r.station j v → Knows bounds r.n r.made r.line lock station j v)
    → HolderSits (set s.views me w) station lock → Lawful bounds (handed s x y me w)
lock_step bounds s r x y station lock me v w there same seats_are above locked callers mine others holder =
    let seats = seats_after (Knows bounds r.n r.made r.line r.lock r.station) (Knows bounds r.n r.made r.line lock station) s.views me w mine others r.each_seat in
    record {
      n = r.n;
      made = r.made;
      line = r.line;
      lock = lock;
      station = station;
      wide = length-set s.words 0 x ∙ r.wide;
      deep = length-set s.homes 0 y ∙ r.deep;
      not_made = above;
      line_holds = record { length_is = get_or-set_other s.words 0 length_word x 0 (λ e. omega arith) ∙ r.line_holds.length_is; whole = r.line_holds.whole; no_strangers = r.line_holds.no_strangers };
      lock_holds = let wide = r.wide in let deep = r.deep in subst (λ (z : ℕ × Home). LockHolds bounds r.n r.line z.0 z.1 lock)
          (λ j. (sym (get_or-set_same s.words 0 x 0 (omega arith)) j, sym (set_here s.homes 0 y (omega arith)) j)) locked;
      holder_sits = holder;
      sit_apart = seats_apart bounds r.n r.made r.line lock station (set s.views me w) seats;
      made_sit = made_sit_after s.views r.station station r.made me v w there same seats_are r.made_sit;
      each_caller = λ k lt. caller_stays bounds r.line (part_of lock k) (part_of lock k) s.words (set s.words 0 x) s.homes (set s.homes 0 y) k (station k) (station k) refl refl
          (get_or-set_other s.words 0 (own_word k) x 0 (λ e. omega arith)) (set_else s.homes 0 (k + 1) y (λ e. omega arith)) (callers k lt);
      each_seat = seats;
    }

-- a caller that is past its making was made
pub made_by_stage : (bounds : Bounds) (s : State Slot View) (r : Lawful bounds s) (i : ℕ) → (r.station i).stage ≢ unmade → i < r.made
made_by_stage bounds s r i past = lt_of_not-le (λ above. past (r.not_made i above).stage_is)

-- the same rule, with its lock in another spelling
abbrev pub relocked : (bounds : Bounds) (s : State Slot View) (r : Lawful bounds s) (lock : Lock) → r.lock ≡ lock → Lawful bounds s
relocked bounds s r lock e = record {
  n = r.n;
  made = r.made;
  line = r.line;
  lock = lock;
  station = r.station;
  wide = r.wide;
  deep = r.deep;
  not_made = r.not_made;
  line_holds = r.line_holds;
  lock_holds = subst (LockHolds bounds r.n r.line (get_or s.words 0 0) (get_elem? s.homes 0)) e r.lock_holds;
  holder_sits = subst (HolderSits s.views r.station) e r.holder_sits;
  sit_apart = r.sit_apart;
  made_sit = r.made_sit;
  each_caller = subst (λ l. (k : ℕ) → k < r.n → CallerHolds bounds r.line (part_of l k) (get_or s.words (own_word k) 0) (get_elem? s.homes (k + 1)) k (r.station k)) e r.each_caller;
  each_seat = subst (λ l. (j : ℕ) (v : View) → get_elem? s.views j ≡ some v → Knows bounds r.n r.made r.line l r.station j v) e r.each_seat;
}

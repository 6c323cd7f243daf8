-- The table is lawful when it is made, and the steps that make its callers keep the rule.
-- `opens` is what the table asks of a new table, `makes_from` and `arrives` of the split and the step that make a caller.
use Rattle.std.specs.Global.{Box}
use Rattle.std.proofs.Common.{◌≡◌, ◌≢◌, ◌⊎◌, ℕ, zero, suc, ◌+◌, ◌<◌, ◌≤◌, true, false, List, [], ◌∷◌, ◌++◌, length, get_or, set, Some, None, refl, sym, ap, ◌∙◌, subst, ⊎_elim, inl, inr, arith, map, replicate, add-one}
use mathlib.Core.Logic.{dite}
use mathlib.Core.Option.{some, none, some-injective, some-ne-none}
use native.Mathlib.Decide.{ℕ_discrete}
use lib.ListN.{get_elem?, length-replicate, length-map}
use Rattle.atomic_table.specs.Table.{State, step, takes, Allows, Splits, opening}
use Rattle.atomic_table.proofs.Lists.{at_last, at_longer}
use Rattle.vector_memory.specs.declared.bounds.Bounds.{Bounds}
use Rattle.call_history.specs.declared.entry.Entry.{Entry}
use Rattle.call_history.proofs.Beginnings.{begins_empty, begins_self}
use Rattle.request_slots.specs.declared.desk.Slot.{Slot}
use Rattle.request_slots.specs.declared.desk.Slot.TheVariants.{Nothing, Kept}
use Rattle.request_slots.specs.declared.desk.Desk.{Desk}
use Rattle.request_slots.specs.declared.known.Pass.{Pass}
use Rattle.request_slots.specs.declared.known.View.{View}
use Rattle.request_slots.specs.declared.known.View.TheVariants.{Maker, Newcomer, Caller, Bare, Spent}
use Rattle.request_slots.specs.Stages.{Stage, unmade, idle, posted, taken, done, Station, Home, length_word, own_word}
use Rattle.request_slots.specs.Passes.{Lock, free, held_by, pass_of, Part, part_of}
use Rattle.request_slots.specs.Locks.{MadeSit}
use Rattle.request_slots.specs.Requests.{StageHolds, request_at, CallerHolds}
use Rattle.request_slots.specs.Lawful.{IsNotMade, NewcomerKnows, CallerKnows, Knows, Lawful}
use Rattle.request_slots.specs.Standing.{Machine, no_job, newcomer}
use Rattle.request_slots.specs.Views.{untold, IsSpare, next_maker, next_caller}
use Rattle.request_slots.specs.Events.{Sat, Arrives}
use Rattle.request_slots.proofs.Stations.{put, put_here, put_else, put_rises, put_abides, put_seat, caller_abides, others_know}
use Rattle.request_slots.proofs.Holders.{pass_elsewhere, holder_apart, holder_more, holder_has_held, seats_apart, made_sit_after}
use Rattle.request_slots.proofs.Carrying.{seats_after, caller_step}

all_same : (n i x : ℕ) → get_or (replicate n x) i x ≡ x
all_same zero i x = refl
all_same (suc n) zero x = refl
all_same (suc n) (suc i) x = all_same n i x

all_vacant : {A : Type 0} (n i : ℕ) (a : A) → i < n → get_elem? (map some (replicate n a)) i ≡ some (some a)
all_vacant zero i a h = absurd (omega arith)
all_vacant (suc n) zero a h = refl
all_vacant (suc n) (suc i) a h = all_vacant n i a (omega arith)

at_end : {A : Type 0} (l : List A) (a b : A) (j : ℕ) → get_elem? (l ++ a ∷ []) j ≡ some b → (get_elem? l j ≡ some b) ⊎ ((j ≡ length l) × (a ≡ b))
at_end [] a b zero e = inr (refl, some-injective a b e)
at_end [] a b (suc j) e = absurd (some-ne-none b (sym e))
at_end (x ∷ xs) a b zero e = inl e
at_end (x ∷ xs) a b (suc j) e = ⊎_elim inl (λ (t : (j ≡ length xs) × (a ≡ b)). inr (ap suc t.0, t.1)) (at_end xs a b j e)

-- a caller that is not made
abbrev blank : Station
blank = record { stage = unmade; seat = 0; own = []; job = no_job; start = []; held = false }

first_knows : (bounds : Bounds) (n j : ℕ) (v : View) → get_elem? (Maker bounds 0 ∷ []) j ≡ some v → Knows bounds n 0 [] free (λ _. blank) j v
first_knows bounds n zero v e = subst (Knows bounds n 0 [] free (λ _. blank) 0) (some-injective (Maker bounds 0) v e) (refl, refl, refl)
first_knows bounds n (suc j) v e = absurd (some-ne-none v (sym e))

pub opens : (bounds : Bounds) (n : ℕ) (words : List ℕ) (slots : List Slot) (d : Box Desk) → words ≡ replicate (own_word n) 0 → slots ≡ Kept d ∷ replicate n Nothing → d.value.book.bounds ≡ bounds → d.value.book.history ≡ [] → IsSpare (n + 1) d.value
    → Lawful bounds (opening words slots (Maker bounds 0))
opens bounds n words slots d words_are slots_are bounds_is no_entries spare =
    let request_spaces = spare.request_spaces in let outcome_spaces = spare.outcome_spaces in
    let word : (i : ℕ) → get_or words i 0 ≡ 0 = λ i. ap (λ l. get_or l i 0) words_are ∙ all_same (own_word n) i 0 in
    record {
      n = n;
      made = 0;
      line = [];
      lock = free;
      station = λ _. blank;
      wide = ap length words_are ∙ length-replicate (own_word n) 0;
      deep = length-map slots (λ (x : Slot). some x) ∙ (ap length slots_are ∙ (ap suc (length-replicate n Nothing) ∙ sym (add-one n)));
      not_made = λ _ _. record { stage_is = refl; not_held = refl };
      line_holds = record { length_is = word length_word; whole = tt; no_strangers = λ _ _. refl };
      lock_holds = record {
        word_is = word 0;
        desk = d;
        home_is = ap (λ l. get_elem? (map some l) 0) slots_are;
        rests = record { bounds_is = bounds_is; history_is = no_entries; no_requests = spare.no_requests; no_outcomes = spare.no_outcomes; request_spaces = omega arith; outcome_spaces = omega arith };
      };
      holder_sits = tt;
      sit_apart = seats_apart bounds n 0 [] free (λ _. blank) (Maker bounds 0 ∷ []) (first_knows bounds n);
      made_sit = λ k lt. absurd (omega arith);
      each_caller = λ k lt. record {
        word_is = word (own_word k);
        request_is = refl;
        stage_holds = record {
          home_is = ap (λ l. get_elem? (map some l) (k + 1)) slots_are ∙ (ap (λ (z : ℕ). get_elem? (map some (Kept d ∷ replicate n Nothing)) z) (add-one k) ∙ all_vacant n k Nothing lt);
          no_calls = refl;
          own_is = refl;
        };
      };
      each_seat = first_knows bounds n;
    }

-- a station whose caller sits elsewhere
abbrev seated : Station → ℕ → Station
seated s seat = record { stage = s.stage; seat = seat; own = s.own; job = s.job; start = s.start; held = s.held }

-- what the rule says of a caller does not depend on where it sits
caller_sits : (bounds : Bounds) (line : List Entry) (part : Part) (word : ℕ) (home : Home) (k : ℕ) (s : Station) (seat : ℕ) → CallerHolds bounds line part word home k s → CallerHolds bounds line part word home k (seated s seat)
caller_sits bounds line part word home k s seat h = record { word_is = h.word_is; request_is = h.request_is; stage_holds = go s.stage h.stage_holds }
  where
    go : (stage : Stage) → StageHolds bounds line part home k s stage → StageHolds bounds line part home k (seated s seat) stage
    go unmade t = t
    go idle t = t
    go posted t = t
    go taken t = t
    go done t = t

-- a caller with no seat yet does not have the desk
unmade_apart : (bounds : Bounds) (s : State Slot View) (r : Lawful bounds s) (h k : ℕ) (p : Pass) → r.lock ≡ held_by h p → (r.station k).held ≡ false → h ≢ k
unmade_apart bounds s r h k p is not_held same = let t : true ≡ false = sym (holder_has_held bounds s r h p is) ∙ (ap (λ (z : ℕ). (r.station z).held) same ∙ not_held) in absurd (cc t)

-- the other seats, once one more caller has a seat
others_make : (bounds : Bounds) (s : State Slot View) (r : Lawful bounds s) (id k seat : ℕ) → get_elem? s.views id ≡ some (Maker bounds k)
    → (j : ℕ) → j ≢ id → (v : View) → Knows bounds r.n r.made r.line r.lock r.station j v → Knows bounds r.n (k + 1) r.line r.lock (put r.station k (seated (r.station k) seat)) j v
others_make bounds s r id k seat at j other (Maker q m) h = absurd (other (h.2 ∙ sym (r.each_seat id (Maker bounds k) at).2))
others_make bounds s r id k seat at j other (Newcomer q i) h =
    let e = (r.each_seat id (Maker bounds k) at).1 in let made = h.number_made in
    subst (λ (z : Station). NewcomerKnows bounds (k + 1) z j q i) (sym (put_else r.station k _ i (λ same. omega arith)))
    record { number_made = omega arith; seat_is = h.seat_is; bounds_is = h.bounds_is; stage_is = h.stage_is; not_held = h.not_held }
others_make bounds s r id k seat at j other (Caller c) h =
    let e = (r.each_seat id (Maker bounds k) at).1 in let made = h.number_made in
    let st : Station = seated (r.station k) seat in
    let t = caller_abides bounds r.n r.made r.line r.line (pass_of r.lock c.standing.number) (pass_of r.lock c.standing.number) (r.station c.standing.number) (put r.station k st c.standing.number) (λ m. (r.station m).held) (λ m. (put r.station k st m).held) j c
    (begins_self r.line) refl (put_abides r.station k st c.standing.number (λ same. omega arith)) (put_rises r.station k st (λ z. z)) h in
    record {
      number_made = omega arith;
      inside = t.inside;
      seat_is = t.seat_is;
      bounds_is = t.bounds_is;
      own_is = t.own_is;
      fronts = t.fronts;
      pass_is = t.pass_is;
      phase = t.phase;
      settled = t.settled;
      notes = t.notes;
    }
others_make bounds s r id k seat at j other (Bare seen) h = h
others_make bounds s r id k seat at j other Spent h = tt

-- and each caller that was made has its view, also the next one
made_sit_makes : (bounds : Bounds) (s : State Slot View) (r : Lawful bounds s) (id k : ℕ) → get_elem? s.views id ≡ some (Maker bounds k)
    → let before : List View = set s.views id (Maker bounds (k + 1)) in MadeSit (before ++ Newcomer bounds k ∷ []) (put r.station k (seated (r.station k) (length before))) (k + 1)
made_sit_makes bounds s r id k at i lt =
    let before : List View = set s.views id (Maker bounds (k + 1)) in
    let st : Station = seated (r.station k) (length before) in
    let all : List View = before ++ Newcomer bounds k ∷ [] in
    let made = (r.each_seat id (Maker bounds k) at).1 in
    dite (ℕ_discrete i k)
    (λ same. (
      Newcomer bounds k,
      ap (λ (z : ℕ). get_elem? all (put r.station k st z).seat) same ∙ (ap (λ (z : Station). get_elem? all z.seat) (put_here r.station k st) ∙ at_last before (Newcomer bounds k) (length before) refl),
      ap (λ (z : ℕ). Some z) (sym same),
    ))
    (λ other. let old = made_sit_after s.views r.station r.station r.made id (Maker bounds k) (Maker bounds (k + 1)) at refl (λ _. refl) r.made_sit i (omega arith) in (
      old.0,
      ap (λ (z : Station). get_elem? all z.seat) (put_else r.station k st i other) ∙ at_longer before (Newcomer bounds k ∷ []) (r.station i).seat old.0 old.1,
      old.2,
    ))

-- the maker gives the next caller a seat
makes : (bounds : Bounds) (id k : ℕ) → Splits (Lawful bounds) id (Maker bounds k) (Maker bounds (k + 1)) (Newcomer bounds k)
makes bounds id k s r at =
    let know = r.each_seat id (Maker bounds k) at in
    let above : r.made ≤ k = let e = know.1 in omega arith in
    let fresh = r.not_made k above in
    let before : List View = set s.views id (Maker bounds (k + 1)) in
    let st : Station = seated (r.station k) (length before) in
    let seats : (j : ℕ) (v : View) → get_elem? (before ++ Newcomer bounds k ∷ []) j ≡ some v → Knows bounds r.n (k + 1) r.line r.lock (put r.station k st) j v =
    λ j v e. ⊎_elim
    (seats_after (Knows bounds r.n r.made r.line r.lock r.station) (Knows bounds r.n (k + 1) r.line r.lock (put r.station k st)) s.views id (Maker bounds (k + 1)) (refl, refl, know.2)
    (others_make bounds s r id k (length before) at) r.each_seat j v)
    (λ (t : (j ≡ length before) × (Newcomer bounds k ≡ v)). subst (λ (z : ℕ × View). Knows bounds r.n (k + 1) r.line r.lock (put r.station k st) z.0 z.1) (λ i. (sym t.0 i, t.1 i))
    (subst (λ (z : Station). NewcomerKnows bounds (k + 1) z (length before) bounds k) (sym (put_here r.station k st)) record { number_made = omega arith; seat_is = refl; bounds_is = refl; stage_is = fresh.stage_is; not_held = fresh.not_held }))
    (at_end before (Newcomer bounds k) v j e) in
    record {
      n = r.n;
      made = k + 1;
      line = r.line;
      lock = r.lock;
      station = put r.station k st;
      wide = r.wide;
      deep = r.deep;
      not_made = λ i far. subst IsNotMade (sym (put_else r.station k st i (λ e. omega arith))) (r.not_made i (let e = know.1 in omega arith));
      line_holds = r.line_holds;
      lock_holds = r.lock_holds;
      holder_sits = holder_more before (Newcomer bounds k) (put r.station k st) r.lock
          (holder_apart s.views r.station (put r.station k st) r.lock id (Maker bounds k) (Maker bounds (k + 1)) at (λ c e. absurd (cc e))
          (λ h p is. ap (λ (z : Station). z.seat) (put_else r.station k st h (unmade_apart bounds s r h k p is fresh.not_held))) r.holder_sits);
      sit_apart = seats_apart bounds r.n (k + 1) r.line r.lock (put r.station k st) (before ++ Newcomer bounds k ∷ []) seats;
      made_sit = made_sit_makes bounds s r id k at;
      each_caller = λ i lt. dite (ℕ_discrete i k)
          (λ same. subst (λ (z : ℕ). CallerHolds bounds r.line (part_of r.lock z) (get_or s.words (own_word z) 0) (get_elem? s.homes (z + 1)) z (put r.station k st z)) (sym same)
          (subst (λ (z : Station). CallerHolds bounds r.line (part_of r.lock k) (get_or s.words (own_word k) 0) (get_elem? s.homes (k + 1)) k z) (sym (put_here r.station k st))
          (caller_sits bounds r.line (part_of r.lock k) (get_or s.words (own_word k) 0) (get_elem? s.homes (k + 1)) k (r.station k) (length before) (r.each_caller k (subst (λ (z : ℕ). z < r.n) same lt)))))
          (λ other. subst (λ (z : Station). CallerHolds bounds r.line (part_of r.lock i) (get_or s.words (own_word i) 0) (get_elem? s.homes (i + 1)) i z) (sym (put_else r.station k st i other)) (r.each_caller i lt));
      each_seat = seats;
    }

-- the same for the maker's view as it stands; the maker knows the room of the rule
pub makes_from : (key bounds : Bounds) (id k : ℕ) (v : View) → v ≡ Maker bounds k → Splits (Lawful key) id v (next_maker v) (next_caller v)
makes_from key bounds id k v is s r at =
    let same : bounds ≡ key = (subst (Knows key r.n r.made r.line r.lock r.station id) is (r.each_seat id v at)).0 in
    subst (λ (w : View). Splits (Lawful key) id w (next_maker w) (next_caller w)) (sym is)
    (subst (λ (z : Bounds). Splits (Lawful key) id (Maker z k) (Maker z (k + 1)) (Newcomer z k)) (sym same) (makes key id k)) s r at

-- a caller that never had the desk does not have it
no_pass_unheld : (bounds : Bounds) (s : State Slot View) (r : Lawful bounds s) (k : ℕ) (lock : Lock) → r.lock ≡ lock → (r.station k).held ≡ false → pass_of lock k ≡ None
no_pass_unheld bounds s r k free is e = refl
no_pass_unheld bounds s r k (held_by q p) is e = pass_elsewhere q k p (λ same. unmade_apart bounds s r q k p is e (sym same))

-- a new caller takes its slot out
pub arrives : (machine : Machine) (key : Bounds) (slots id : ℕ) (bounds : Bounds) (k : ℕ) (me : Sat) → me ≡ (Newcomer bounds k, []) → k + 1 < slots → Allows (Lawful key) slots id me (own_word k) (λ _. 1) (λ _. Arrives machine (step slots (own_word k) 1 0 none) me 1)
arrives machine key slots id bounds k me is near = subst (λ (m : Sat). Allows (Lawful key) slots id m (own_word k) (λ _. 1) (λ _. Arrives machine (step slots (own_word k) 1 0 none) m 1)) (sym is) go
  where
    go : Allows (Lawful key) slots id (Newcomer bounds k, []) (own_word k) (λ _. 1) (λ _. Arrives machine (step slots (own_word k) 1 0 none) (Newcomer bounds k, []) 1)
    go s r deep at small =
        let know = r.each_seat id (Newcomer bounds k) at in
        let sized : slots ≡ r.n + 1 = sym deep ∙ r.deep in
        let inside : k < r.n = omega arith in
        let there : Station = r.station k in
        let caller = r.each_caller k inside in
        let stage = subst (StageHolds key r.line (part_of r.lock k) (get_elem? s.homes (k + 1)) k there) know.stage_is caller.stage_holds in
        let st : Station = record { stage = idle; seat = there.seat; own = there.own; job = there.job; start = there.start; held = there.held } in
        let rises = put_rises r.station k st (λ e. e) in (
          Caller (untold (newcomer machine bounds k)),
          takes (k + 1) Nothing,
          stage.home_is,
          caller_step key s r k 1 none st r.lock id (Newcomer bounds k) (Caller (untold (newcomer machine bounds k))) inside know.number_made at refl refl (λ i other. refl)
              record { word_is = refl; request_is = caller.request_is ∙ ap (λ (z : Stage). request_at z there.job) know.stage_is; stage_holds = record { home_is = refl; own_is = stage.no_calls ∙ sym stage.own_is } }
              r.lock_holds
              (subst (λ (z : Station). CallerKnows key r.n r.made r.line (pass_of r.lock k) z (λ m. (put r.station k st m).held) id (untold (newcomer machine bounds k))) (sym (put_here r.station k st)) record {
                number_made = know.number_made;
                inside = inside;
                seat_is = know.seat_is;
                bounds_is = know.bounds_is;
                own_is = sym stage.own_is;
                fronts = record { seen_begins = begins_empty r.line; told_begins = begins_empty r.line; start_begins = begins_empty r.line; seen_whole = tt; told_whole = tt };
                pass_is = sym (no_pass_unheld key s r k r.lock refl know.not_held);
                phase = record { stage_is = refl; own_is = refl };
                settled = record { done = λ e. absurd (cc e); tried = λ p e. absurd (cc e) };
                notes = record { held_is = sym know.not_held; holder_held = λ p e. absurd (cc e); others_held = λ m e. absurd (cc e) };
              })
              (others_know key r.n r.made r.line r.line r.lock r.lock r.station (put r.station k st) k id know.seat_is (begins_self r.line) (λ i other. refl) (put_abides r.station k st) rises)
              (holder_apart s.views r.station (put r.station k st) r.lock id (Newcomer bounds k) (Caller (untold (newcomer machine bounds k))) at (λ c e. absurd (cc e)) (λ h p is. put_seat r.station k st refl h) r.holder_sits),
          λ q j e. let same_room : bounds ≡ q = cc e in let same : k ≡ j = cc e in λ i. (Caller (untold (newcomer machine (same_room i) (same i))), (same i + 1, Nothing) ∷ []),
        )

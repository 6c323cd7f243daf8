-- Who has the desk, and in which seat.
-- `lock_is` and `pass_there` tell the lock from a pass; `holder_begins`, `holder_follows` and `holder_apart` keep the clause that the
-- holder sits after a step; `seats_apart` shows that no caller has two seats, and `made_sit_after` that each keeps its own;
-- `holder_has_held` says that the holder has had the desk.
use Rattle.std.proofs.Common.{◌≡◌, ◌≢◌, ℕ, zero, suc, ◌<◌, true, List, [], ◌∷◌, ◌++◌, length, set, cond, Option, Some, None, refl, sym, ap, ◌∙◌, subst, arith, eq-eqb, ne_eqb}
use mathlib.Core.Logic.{dite}
use mathlib.Core.Option.{some, some-injective, some-ne-none}
use native.Mathlib.Decide.{ℕ_discrete}
use lib.ListN.{get_elem?}
use Rattle.atomic_table.specs.Table.{State}
use Rattle.atomic_table.proofs.Lists.{set_here, set_else, at_longer}
use Rattle.vector_memory.specs.declared.bounds.Bounds.{Bounds}
use Rattle.call_history.specs.declared.entry.Entry.{Entry}
use Rattle.request_slots.specs.declared.desk.Slot.{Slot}
use Rattle.request_slots.specs.declared.known.Pass.{Pass}
use Rattle.request_slots.specs.declared.known.Known.{Known}
use Rattle.request_slots.specs.declared.known.View.{View}
use Rattle.request_slots.specs.declared.known.View.TheVariants.{Maker, Newcomer, Caller, Bare, Spent}
use Rattle.request_slots.specs.Stages.{Station}
use Rattle.request_slots.specs.Passes.{Lock, free, held_by, pass_of}
use Rattle.request_slots.specs.Locks.{HolderSits, SitApart, MadeSit, sitter_of}
use Rattle.request_slots.specs.Lawful.{Knows, Lawful}

-- the caller whose view has a pass is the one that has the desk
pub lock_is : (lock : Lock) (k : ℕ) (p : Pass) → Some p ≡ pass_of lock k → lock ≡ held_by k p
lock_is free k p e = absurd (cc e)
lock_is (held_by h q) k p e = dite (ℕ_discrete h k)
    (λ same. let there : Some p ≡ Some q = e ∙ ap (λ b. cond {A = Option Pass} b (Some q) None) (eq-eqb h k same) in let passes : p ≡ q = cc there in λ i. held_by (same i) (sym passes i))
    (λ other. let nowhere : Some p ≡ None = e ∙ ap (λ b. cond {A = Option Pass} b (Some q) None) (ne_eqb h k other) in absurd (cc nowhere))

pub pass_elsewhere : (h k : ℕ) (p : Pass) → k ≢ h → pass_of (held_by h p) k ≡ None
pass_elsewhere h k p other = ap (λ b. cond {A = Option Pass} b (Some p) None) (ne_eqb h k (λ e. other (sym e)))

pub pass_there : (h : ℕ) (p : Pass) → pass_of (held_by h p) h ≡ Some p
pass_there h p = ap (λ b. cond {A = Option Pass} b (Some p) None) (eq-eqb h h refl)

at_holds : (views : List View) (j : ℕ) (v : View) → get_elem? views j ≡ some v → j < length views
at_holds [] j v e = absurd (some-ne-none v (sym e))
at_holds (x ∷ xs) zero v e = omega arith
at_holds (x ∷ xs) (suc j) v e = let lt = at_holds xs j v e in omega arith

-- the seat of the caller that takes the desk, or goes on with its pass
pub holder_begins : (views : List View) (station : ℕ → Station) (me : ℕ) (v : View) (c : Known) (p : Pass) → get_elem? views me ≡ some v → (station c.standing.number).seat ≡ me → c.pass ≡ Some p
    → HolderSits (set views me (Caller c)) station (held_by c.standing.number p)
holder_begins views station me v c p there seat has = (c, ap (get_elem? (set views me (Caller c))) seat ∙ set_here views me (Caller c) (at_holds views me v there), refl, has)

-- the seat of a caller that knows more, while nobody takes the desk or gives it back
pub holder_follows : (views : List View) (station station' : ℕ → Station) (lock : Lock) (me : ℕ) (c c' : Known) → get_elem? views me ≡ some (Caller c) → c'.standing.number ≡ c.standing.number
    → ((k : ℕ) → (station' k).seat ≡ (station k).seat) → (station c'.standing.number).seat ≡ me → c'.pass ≡ pass_of lock c'.standing.number → HolderSits views station lock → HolderSits (set views me (Caller c')) station' lock
holder_follows views station station' free me c c' there number seats seat pass holder = tt
holder_follows views station station' (held_by h p) me c c' there number seats seat pass holder = dite (ℕ_discrete h c'.standing.number)
    (λ same. (
      c',
      ap (get_elem? (set views me (Caller c'))) (seats h ∙ (ap (λ (n : ℕ). (station n).seat) same ∙ seat)) ∙ set_here views me (Caller c') (at_holds views me (Caller c) there),
      sym same,
      pass ∙ (ap (pass_of (held_by h p)) (sym same) ∙ pass_there h p),
    ))
    (λ other. let apart : (station h).seat ≢ me = λ e. let is : Caller holder.0 ≡ Caller c = some-injective (Caller holder.0) (Caller c) (sym holder.1 ∙ (ap (get_elem? views) e ∙ there)) in
    let known : holder.0 ≡ c = cc is in other (sym holder.2 ∙ (ap (λ (k : Known). k.standing.number) known ∙ sym number)) in
    (holder.0, ap (get_elem? (set views me (Caller c'))) (seats h) ∙ (set_else views me (station h).seat (Caller c') apart ∙ holder.1), holder.2, holder.3))

-- a step by a seat that is no caller's
pub holder_apart : (views : List View) (station station' : ℕ → Station) (lock : Lock) (me : ℕ) (v w : View) → get_elem? views me ≡ some v → ((c : Known) → v ≢ Caller c)
    → ((h : ℕ) (p : Pass) → lock ≡ held_by h p → (station' h).seat ≡ (station h).seat) → HolderSits views station lock → HolderSits (set views me w) station' lock
holder_apart views station station' free me v w there no_caller seats holder = tt
holder_apart views station station' (held_by h p) me v w there no_caller seats holder =
    let apart : (station h).seat ≢ me = λ e. no_caller holder.0 (some-injective v (Caller holder.0) (sym there ∙ (ap (get_elem? views) (sym e) ∙ holder.1))) in
    (holder.0, ap (get_elem? (set views me w)) (seats h p refl) ∙ (set_else views me (station h).seat w apart ∙ holder.1), holder.2, holder.3)

pub holder_more : (views : List View) (w : View) (station : ℕ → Station) (lock : Lock) → HolderSits views station lock → HolderSits (views ++ w ∷ []) station lock
holder_more views w station free holder = tt
holder_more views w station (held_by h p) holder = (holder.0, at_longer views (w ∷ []) (station h).seat (Caller holder.0) holder.1, holder.2, holder.3)

-- the views of the callers that were made, after a step of a seat that stays its caller's
pub made_sit_after : (views : List View) (station station' : ℕ → Station) (made me : ℕ) (v w : View) → get_elem? views me ≡ some v → sitter_of w ≡ sitter_of v
    → ((k : ℕ) → (station' k).seat ≡ (station k).seat) → MadeSit views station made → MadeSit (set views me w) station' made
made_sit_after views station station' made me v w there same seats sit k lt =
    let old = sit k lt in
    dite (ℕ_discrete (station k).seat me)
    (λ mine. (
      w,
      ap (get_elem? (set views me w)) (seats k ∙ mine) ∙ set_here views me w (at_holds views me v there),
      same ∙ (ap sitter_of (some-injective v old.0 (sym there ∙ (ap (get_elem? views) (sym mine) ∙ old.1))) ∙ old.2),
    ))
    (λ other. (old.0, ap (get_elem? (set views me w)) (seats k) ∙ (set_else views me (station k).seat w other ∙ old.1), old.2))

-- a view of a caller stands where the caller's station says
seat_of_caller : (bounds : Bounds) (n made : ℕ) (line : List Entry) (lock : Lock) (station : ℕ → Station) (j k : ℕ) (v : View) → Knows bounds n made line lock station j v → sitter_of v ≡ Some k → (station k).seat ≡ j
seat_of_caller bounds n made line lock station j k (Maker q m) h e = absurd (cc e)
seat_of_caller bounds n made line lock station j k (Newcomer q i) h e = let same : i ≡ k = cc e in ap (λ (z : ℕ). (station z).seat) (sym same) ∙ h.seat_is
seat_of_caller bounds n made line lock station j k (Caller c) h e = let same : c.standing.number ≡ k = cc e in ap (λ (z : ℕ). (station z).seat) (sym same) ∙ h.seat_is
seat_of_caller bounds n made line lock station j k (Bare seen) h e = absurd (cc e)
seat_of_caller bounds n made line lock station j k Spent h e = absurd (cc e)

pub seats_apart : (bounds : Bounds) (n made : ℕ) (line : List Entry) (lock : Lock) (station : ℕ → Station) (views : List View) → ((j : ℕ) (v : View) → get_elem? views j ≡ some v → Knows bounds n made line lock station j v) → SitApart views
seats_apart bounds n made line lock station views knows i j k v w at there is same =
    sym (seat_of_caller bounds n made line lock station i k v (knows i v at) is) ∙ seat_of_caller bounds n made line lock station j k w (knows j w there) same

-- the caller that the lock names has had the desk
pub holder_has_held : (bounds : Bounds) (s : State Slot View) (r : Lawful bounds s) (h : ℕ) (p : Pass) → r.lock ≡ held_by h p → (r.station h).held ≡ true
holder_has_held bounds s r h p is =
    let sits = subst (HolderSits s.views r.station) is r.holder_sits in
    let knows = r.each_seat (r.station h).seat (Caller sits.0) sits.1 in
    ap (λ (z : ℕ). (r.station z).held) (sym sits.2) ∙ (sym knows.notes.held_is ∙ knows.notes.holder_held p sits.3)

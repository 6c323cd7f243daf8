-- Calls that write over what lies at their targets, all at once: what is taken out leaves room for as much (`room_for`), what was taken may
-- go back (`put_back`), and putting what the calls made is what they do one by one (`done_over`).
use Rattle.std.proofs.Common.{◌≡◌, ◌≢◌, ◌+◌, ◌<◌, ◌≤◌, ℕ, ℤ, Bool, true, false, List, [], ◌∷◌, length, map, Option, Some, None, Result, Ok, refl, sym, ap, ◌∙◌, ◌++◌, subst, arith, append_assoc}
use Rattle.std.specs.Prelude.{unwrap_or}
use Rattle.std.specs.List.{AllByRecursion, filter_map}
use Rattle.std.specs.Option.{option_map}
use Rattle.std.proofs.lemmas.Cmp.{nat_list_eq_equiv}
use Rattle.std.proofs.lemmas.List.{map_push}
use Rattle.std.proofs.lemmas.Simd.{map-map}
use Rattle.vector_memory.specs.declared.name.Name.{Name}
use Rattle.vector_memory.specs.Contents.{Content, Ints, size_of}
use Rattle.vector_memory.specs.Names.{same_name}
use Rattle.vector_memory.specs.States.{State, IsLawful, cells_of, old_size, put, spent, value_at}
use Rattle.vector_memory.proofs.BlockLemmas.{same_text}
use Rattle.vector_memory.proofs.Putting.{lookup-inserted, not_refused, put-put, value_at-put}
use Rattle.vector_memory.proofs.Swapping.{put-same, put-swapped}
use Rattle.vector_memory.proofs.StateLemmas.{cells-put, old_size_le_cells, value_at-fits}
use Rattle.cvl_text.specs.Answers.{Done}
use Rattle.cvl_text.specs.declared.fault.Fault.{Fault}
use Rattle.cvl_text.specs.Tasks.{Task, Argument, Vector, Number, Truth, Numbers, Truths, name_in, reads, target}
use Rattle.cvl_calls.specs.Alike.{AreDone, AreHeld, HasRoomFor, ReadsNoneEmpty, after_all, emptied, filled}
use Rattle.cvl_calls.specs.Outcomes.{Effect, Held, Operand, Stores, operand_of, operands_of}
use Rattle.cvl_calls.specs.Steps.{Stepped, followed, refused, stepped, work_on}
use Rattle.cvl_calls.specs.Work.{work}

abbrev Apart : Name → List Name → Type 0
Apart n ks = AllByRecursion (λ k. same_name n k ≡ false) ks

abbrev Distinct : List Name → Type 0
Distinct [] = Unit {0}
Distinct (n ∷ ns) = Apart n ns × Distinct ns

-- the names stand for these integers
abbrev At : State → List Name → List (List ℤ) → Type 0
At m [] [] = Unit {0}
At m [] (v ∷ vs) = ⊥
At m (n ∷ ns) [] = ⊥
At m (n ∷ ns) (v ∷ vs) = (value_at m n ≡ Some (Ints v)) × (length v ≤ m.limit) × At m ns vs

abbrev AreEmpty : State → List Name → Type 0
AreEmpty m ns = AllByRecursion (λ n. value_at m n ≡ Some (Ints [])) ns

abbrev total : List (List ℤ) → ℕ
total [] = 0
total (v ∷ vs) = length v + total vs

abbrev lengths : List (List ℤ) → List ℕ
lengths vs = map (λ v. length v) vs

abbrev ints_of : Option Content → List ℤ
ints_of (Some (Ints xs)) = xs
ints_of other = []

elsewhere : (m : State) (n k : Name) (v : Content) → same_name n k ≡ false → value_at (put m n v) k ≡ value_at m k
elsewhere m n k v f = lookup-inserted m.entries n k v f

other_way : (n k : Name) → same_name n k ≡ false → same_name k n ≡ false
other_way n k f = nat_list_eq_equiv.symm k n ∙ f

-- what is taken out

stays-empty : (m : State) (n k : Name) → value_at m k ≡ Some (Ints []) → value_at (put m n (Ints [])) k ≡ Some (Ints [])
stays-empty m n k is = by (same_name n k) refl
  where
    by : (b : Bool) → same_name n k ≡ b → value_at (put m n (Ints [])) k ≡ Some (Ints [])
    by true same = ap (value_at (put m n (Ints []))) (sym (same_text n k same)) ∙ value_at-put m n (Ints [])
    by false f = elsewhere m n k (Ints []) f ∙ is

emptied-stays : (m : State) (ns : List Name) (k : Name) → value_at m k ≡ Some (Ints []) → value_at (emptied m ns) k ≡ Some (Ints [])
emptied-stays m [] k is = is
emptied-stays m (n ∷ ns) k is = emptied-stays (put m n (Ints [])) ns k (stays-empty m n k is)

emptied-all : (m : State) (ns : List Name) → AreEmpty (emptied m ns) ns
emptied-all m [] = tt
emptied-all m (n ∷ ns) = (emptied-stays (put m n (Ints [])) ns n (value_at-put m n (Ints [])), emptied-all (put m n (Ints [])) ns)

-- a name that stands for nothing is none of a memory's that stand for something
different : (m : State) (n k : Name) (c : Option Content) → value_at m n ≡ Some (Ints []) → value_at m k ≡ c → c ≢ Some (Ints []) → same_name n k ≡ false
different m n k c empty is other = by (same_name n k) refl
  where
    by : (b : Bool) → same_name n k ≡ b → b ≡ false
    by true same = absurd (other (sym is ∙ ap (value_at m) (sym (same_text n k same)) ∙ empty))
    by false f = refl

held-apart : (m : State) (n : Name) (ns : List Name) (vs : List (List ℤ)) → value_at m n ≡ Some (Ints []) → AreHeld m ns vs → Apart n ns
held-apart m n [] [] is held = tt
held-apart m n [] (v ∷ vs) is held = absurd held
held-apart m n (k ∷ ks) [] is held = absurd held
held-apart m n (k ∷ ks) (v ∷ vs) is held =
    (different m n k (Some (Ints v)) is held.0 (λ e. let none : length v ≡ 0 = ap (λ o. length (ints_of o)) e in absurd (omega (arith, held.1))), held-apart (put m k (Ints [])) n ks vs (stays-empty m k n is) held.3)

held-distinct : (m : State) (ns : List Name) (vs : List (List ℤ)) → AreHeld m ns vs → Distinct ns
held-distinct m [] [] held = tt
held-distinct m [] (v ∷ vs) held = absurd held
held-distinct m (n ∷ ns) [] held = absurd held
held-distinct m (n ∷ ns) (v ∷ vs) held = (held-apart (put m n (Ints [])) n ns vs (value_at-put m n (Ints [])) held.3, held-distinct (put m n (Ints [])) ns vs held.3)

at-back : (m : State) (n : Name) (c : Content) (ns : List Name) (vs : List (List ℤ)) → Apart n ns → At (put m n c) ns vs → At m ns vs
at-back m n c [] [] f there = tt
at-back m n c [] (v ∷ vs) f there = absurd there
at-back m n c (k ∷ ks) [] f there = absurd there
at-back m n c (k ∷ ks) (v ∷ vs) f there = (sym (elsewhere m n k c f.0) ∙ there.0, there.1, at-back m n c ks vs f.1 there.2)

at-on : (m : State) (n : Name) (c : Content) (ns : List Name) (vs : List (List ℤ)) → Apart n ns → At m ns vs → At (put m n c) ns vs
at-on m n c [] [] f there = tt
at-on m n c [] (v ∷ vs) f there = absurd there
at-on m n c (k ∷ ks) [] f there = absurd there
at-on m n c (k ∷ ks) (v ∷ vs) f there = (elsewhere m n k c f.0 ∙ there.0, there.1, at-on m n c ks vs f.1 there.2)

held-at : (m : State) (ns : List Name) (vs : List (List ℤ)) → AreHeld m ns vs → At m ns vs
held-at m [] [] held = tt
held-at m [] (v ∷ vs) held = absurd held
held-at m (n ∷ ns) [] held = absurd held
held-at m (n ∷ ns) (v ∷ vs) held =
    (held.0, held.2, at-back m n (Ints []) ns vs (held-apart (put m n (Ints [])) n ns vs (value_at-put m n (Ints [])) held.3) (held-at (put m n (Ints [])) ns vs held.3))

pub emptied-outside : (m : State) (ns : List Name) → m.block ≡ None → (emptied m ns).block ≡ None
emptied-outside m [] outside = outside
emptied-outside m (n ∷ ns) outside = emptied-outside (put m n (Ints [])) ns (ap (spent true) outside)

emptied-room : (m : State) (ns : List Name) → (emptied m ns).room ≡ m.room
emptied-room m [] = refl
emptied-room m (n ∷ ns) = emptied-room (put m n (Ints [])) ns

emptied-limit : (m : State) (ns : List Name) → (emptied m ns).limit ≡ m.limit
emptied-limit m [] = refl
emptied-limit m (n ∷ ns) = emptied-limit (put m n (Ints [])) ns

size_is : (m : State) (n : Name) (v : List ℤ) → value_at m n ≡ Some (Ints v) → old_size m n ≡ length v
size_is m n v is = ap (λ (o : Option Content). unwrap_or (option_map size_of o) 0) is

held-cells : (m : State) (ns : List Name) (vs : List (List ℤ)) → AreHeld m ns vs → cells_of (emptied m ns).entries + total vs ≡ cells_of m.entries
held-cells m [] [] held = omega arith
held-cells m [] (v ∷ vs) held = absurd held
held-cells m (n ∷ ns) [] held = absurd held
held-cells m (n ∷ ns) (v ∷ vs) held =
    let rest = held-cells (put m n (Ints [])) ns vs held.3 in
    let size = size_is m n v held.0 in
    omega (arith, rest, size, cells-put m n (Ints []), old_size_le_cells m n)

-- room for as much

empty-on : (m : State) (n : Name) (c : Content) (ns : List Name) → Apart n ns → AreEmpty m ns → AreEmpty (put m n c) ns
empty-on m n c [] f empty = tt
empty-on m n c (k ∷ ks) f empty = (elsewhere m n k c f.0 ∙ empty.0, empty-on m n c ks f.1 empty.1)

has_room : (m : State) (ns : List Name) (ws : List (List ℤ)) → AreEmpty m ns → Distinct ns → length ns ≡ length ws → cells_of m.entries + total ws ≤ m.room → AllByRecursion (λ w. length w ≤ m.limit) ws → HasRoomFor m ns ws
has_room m [] [] empty distinct same fits short = tt
has_room m [] (w ∷ ws) empty distinct same fits short = absurd (omega arith)
has_room m (n ∷ ns) [] empty distinct same fits short = absurd (omega arith)
has_room m (n ∷ ns) (w ∷ ws) empty distinct same fits short =
    let size = size_is m n [] empty.0 in
    let grown = cells-put m n (Ints w) in
    (empty.0, omega arith, short.0, has_room (put m n (Ints w)) ns ws (empty-on m n (Ints w) ns distinct.0 empty.1) distinct.1 (omega arith) (omega (arith, size, grown)) short.1)

same_total : (vs ws : List (List ℤ)) → lengths ws ≡ lengths vs → total ws ≡ total vs
same_total [] [] same = refl
same_total [] (w ∷ ws) same = absurd cc
same_total (v ∷ vs) [] same = absurd cc
same_total (v ∷ vs) (w ∷ ws) same =
    let one : length w ≡ length v = cc in
    let rest : lengths ws ≡ lengths vs = cc in
    omega (arith, one, same_total vs ws rest)

same_count : (m : State) (ns : List Name) (vs ws : List (List ℤ)) → At m ns vs → lengths ws ≡ lengths vs → length ns ≡ length ws
same_count m [] [] [] there same = refl
same_count m [] [] (w ∷ ws) there same = absurd cc
same_count m [] (v ∷ vs) ws there same = absurd there
same_count m (n ∷ ns) [] ws there same = absurd there
same_count m (n ∷ ns) (v ∷ vs) [] there same = absurd cc
same_count m (n ∷ ns) (v ∷ vs) (w ∷ ws) there same = let rest : lengths ws ≡ lengths vs = cc in omega (arith, same_count m ns vs ws there.2 rest)

same_short : (m : State) (limit : ℕ) (ns : List Name) (vs ws : List (List ℤ)) → limit ≡ m.limit → At m ns vs → lengths ws ≡ lengths vs → AllByRecursion (λ w. length w ≤ limit) ws
same_short m limit [] [] [] is there same = tt
same_short m limit [] [] (w ∷ ws) is there same = absurd cc
same_short m limit [] (v ∷ vs) ws is there same = absurd there
same_short m limit (n ∷ ns) [] ws is there same = absurd there
same_short m limit (n ∷ ns) (v ∷ vs) [] is there same = absurd cc
same_short m limit (n ∷ ns) (v ∷ vs) (w ∷ ws) is there same =
    let one : length w ≡ length v = cc in
    let rest : lengths ws ≡ lengths vs = cc in
    (omega (arith, there.1), same_short m limit ns vs ws is there.2 rest)

pub room_for : (m : State) (ns : List Name) (vs ws : List (List ℤ)) → cells_of m.entries ≤ m.room → AreHeld m ns vs → lengths ws ≡ lengths vs → HasRoomFor (emptied m ns) ns ws
room_for m ns vs ws within held same =
    let there = held-at m ns vs held in
    has_room (emptied m ns) ns ws (emptied-all m ns) (held-distinct m ns vs held) (same_count m ns vs ws there same)
    (omega (arith, held-cells m ns vs held, same_total vs ws same, emptied-room m ns))
    (same_short m (emptied m ns).limit ns vs ws (emptied-limit m ns) there same)

-- what is put back

emptied-put : (m : State) (ns : List Name) (n : Name) (x b : Content) → value_at m n ≡ Some x → Apart n ns → put (emptied m ns) n b ≡ emptied (put m n b) ns
emptied-put m [] n x b is f = refl
emptied-put m (k ∷ ks) n x b is f =
    emptied-put (put m k (Ints [])) ks n x b (elsewhere m k n (Ints []) (other_way n k f.0) ∙ is) f.1
    ∙ ap (λ (s : State). emptied s ks) (put-swapped m n k x (Ints []) b is f.0)

refilled : (m : State) (ns : List Name) (ws : List (List ℤ)) → m.block ≡ None → Distinct ns → length ns ≡ length ws → filled (emptied m ns) ns ws ≡ filled m ns ws
refilled m [] ws outside distinct same = refl
refilled m (n ∷ ns) [] outside distinct same = absurd (omega arith)
refilled m (n ∷ ns) (w ∷ ws) outside distinct same =
    ap (λ (s : State). filled s ns ws) (emptied-put (put m n (Ints [])) ns n (Ints []) (Ints w) (value_at-put m n (Ints [])) distinct.0)
    ∙ ap (λ (s : State). filled (emptied s ns) ns ws) (put-put m n (Ints []) (Ints w) outside)
    ∙ refilled (put m n (Ints w)) ns ws (ap (spent true) outside) distinct.1 (omega arith)

restored : (m : State) (ns : List Name) (vs : List (List ℤ)) → m.block ≡ None → At m ns vs → filled m ns vs ≡ m
restored m [] [] outside there = refl
restored m [] (v ∷ vs) outside there = absurd there
restored m (n ∷ ns) [] outside there = absurd there
restored m (n ∷ ns) (v ∷ vs) outside there = ap (λ (s : State). filled s ns vs) (put-same m n (Ints v) outside there.0) ∙ restored m ns vs outside there.2

pub put_back : (m : State) (ns : List Name) (vs : List (List ℤ)) → m.block ≡ None → AreHeld m ns vs → filled (emptied m ns) ns vs ≡ m
put_back m ns vs outside held =
    let there = held-at m ns vs held in
    refilled m ns vs outside (held-distinct m ns vs held) (same_count m ns vs vs there refl) ∙ restored m ns vs outside there

-- what the calls do

reads-apart : (m : State) (n : Name) (ks : List Name) → value_at m n ≡ Some (Ints []) → AllByRecursion (λ k. value_at m k ≢ Some (Ints [])) ks → Apart n ks
reads-apart m n [] is full = tt
reads-apart m n (k ∷ ks) is full = (different m n k (value_at m k) is refl full.0, reads-apart m n ks is full.1)

abbrev ReadsNone : List Name → Task → Type 0
ReadsNone ns t = AllByRecursion (λ n. Apart n (reads t)) ns

reads-none : (m : State) (ns : List Name) (t : Task) → AreEmpty m ns → ReadsNoneEmpty m t → ReadsNone ns t
reads-none m [] t empty full = tt
reads-none m (n ∷ ns) t empty full = (reads-apart m n (reads t) empty.0 full, reads-none m ns t empty.1 full)

each-reads-none : (m : State) (ns : List Name) (ts : List Task) → AreEmpty m ns → AllByRecursion (ReadsNoneEmpty m) ts → AllByRecursion (ReadsNone ns) ts
each-reads-none m ns [] empty full = tt
each-reads-none m ns (t ∷ ts) empty full = (reads-none m ns t empty full.0, each-reads-none m ns ts empty full.1)

operands-elsewhere : (m : State) (n : Name) (c : Content) (arguments : List Argument) → Apart n (filter_map name_in arguments) → operands_of (put m n c) arguments ≡ operands_of m arguments
operands-elsewhere m n c [] f = refl
operands-elsewhere m n c (Vector k ∷ rest) f =
    ap (λ v. Held v ∷ operands_of (put m n c) rest) (elsewhere m n k c f.0) ∙ ap (λ (l : List Operand). Held (value_at m k) ∷ l) (operands-elsewhere m n c rest f.1)
operands-elsewhere m n c (Number x ∷ rest) f = ap (λ (l : List Operand). operand_of m (Number x) ∷ l) (operands-elsewhere m n c rest f)
operands-elsewhere m n c (Truth b ∷ rest) f = ap (λ (l : List Operand). operand_of m (Truth b) ∷ l) (operands-elsewhere m n c rest f)
operands-elsewhere m n c (Numbers xs ∷ rest) f = ap (λ (l : List Operand). operand_of m (Numbers xs) ∷ l) (operands-elsewhere m n c rest f)
operands-elsewhere m n c (Truths bs ∷ rest) f = ap (λ (l : List Operand). operand_of m (Truths bs) ∷ l) (operands-elsewhere m n c rest f)

work-elsewhere : (m : State) (n : Name) (c : Content) (t : Task) → Apart n (reads t) → work_on (put m n c) t ≡ work_on m t
work-elsewhere m n c t f = ap (work m.limit t.word) (operands-elsewhere m n c t.arguments f)

work-emptied : (m : State) (ns : List Name) (t : Task) → ReadsNone ns t → work_on (emptied m ns) t ≡ work_on m t
work-emptied m [] t f = refl
work-emptied m (n ∷ ns) t f = work-emptied (put m n (Ints [])) ns t f.1 ∙ work-elsewhere m n (Ints []) t f.0

works-emptied : (m : State) (ns : List Name) (ts : List Task) → AllByRecursion (ReadsNone ns) ts → map (work_on (emptied m ns)) ts ≡ map (work_on m) ts
works-emptied m ns [] f = refl
works-emptied m ns (t ∷ ts) f = ap (λ w. w ∷ map (work_on (emptied m ns)) ts) (work-emptied m ns t f.0) ∙ ap (λ l. work_on m t ∷ l) (works-emptied m ns ts f.1)

works-elsewhere : (m : State) (n : Name) (c : Content) (ns : List Name) (ts : List Task) → AllByRecursion (ReadsNone (n ∷ ns)) ts → map (work_on (put m n c)) ts ≡ map (work_on m) ts
works-elsewhere m n c ns [] f = refl
works-elsewhere m n c ns (t ∷ ts) f = ap (λ w. w ∷ map (work_on (put m n c)) ts) (work-elsewhere m n c t f.0.0) ∙ ap (λ l. work_on m t ∷ l) (works-elsewhere m n c ns ts f.1)

fewer : (n : Name) (ns : List Name) (ts : List Task) → AllByRecursion (ReadsNone (n ∷ ns)) ts → AllByRecursion (ReadsNone ns) ts
fewer n ns [] f = tt
fewer n ns (t ∷ ts) f = (f.0.1, fewer n ns ts f.1)

abbrev made : List ℤ → Result Effect Fault
made w = Ok (Stores (Ints w))

-- the step of a call that makes as many integers as lie at its target
step_over : (m : State) (t : Task) (n : Name) (v w : List ℤ) → cells_of m.entries ≤ m.room → target t ≡ Some n → value_at m n ≡ Some (Ints v) → length w ≡ length v → work_on m t ≡ made w
    → stepped m t ≡ record { memory = put m n (Ints w); answer = Done }
step_over m t n v w within to is long makes =
    let size = size_is m n v is in
    let none = not_refused m n (Ints v) (Ints w) is (omega (arith, size, old_size_le_cells m n, within)) in
    ap (λ o. followed m o (work_on m t)) to ∙ ap (followed m (Some n)) makes ∙ ap (λ why. refused m why (put m n (Ints w))) none

ran : (m : State) (ns : List Name) (vs ws : List (List ℤ)) (ts : List Task) → m.block ≡ None → cells_of m.entries ≤ m.room → Distinct ns → At m ns vs → lengths ws ≡ lengths vs → map target ts ≡ map Some ns
    → map (work_on m) ts ≡ map made ws → AllByRecursion (ReadsNone ns) ts → (filled m ns ws ≡ after_all m ts) × AreDone m ts
ran m [] [] [] [] outside within distinct there same targets works f = (refl, tt)
ran m [] [] [] (t ∷ ts) outside within distinct there same targets works f = absurd cc
ran m [] [] (w ∷ ws) ts outside within distinct there same targets works f = absurd cc
ran m [] (v ∷ vs) ws ts outside within distinct there same targets works f = absurd there
ran m (n ∷ ns) [] ws ts outside within distinct there same targets works f = absurd there
ran m (n ∷ ns) (v ∷ vs) [] ts outside within distinct there same targets works f = absurd cc
ran m (n ∷ ns) (v ∷ vs) (w ∷ ws) [] outside within distinct there same targets works f = absurd cc
ran m (n ∷ ns) (v ∷ vs) (w ∷ ws) (t ∷ ts) outside within distinct there same targets works f =
    let to : target t ≡ Some n = cc in
    let others : map target ts ≡ map Some ns = cc in
    let long : length w ≡ length v = cc in
    let as_long : lengths ws ≡ lengths vs = cc in
    let makes : work_on m t ≡ made w = cc in
    let make : map (work_on m) ts ≡ map made ws = cc in
    let step = step_over m t n v w within to there.0 long makes in
    let next = put m n (Ints w) in
    let size = size_is m n v there.0 in
    let rest = ran next ns vs ws ts (ap (spent true) outside) (omega (arith, size, cells-put m n (Ints w), old_size_le_cells m n, within)) distinct.1 (at-on m n (Ints w) ns vs distinct.0 there.2) as_long others
    (works-elsewhere m n (Ints w) ns ts f.1 ∙ make) (fewer n ns ts f.1) in
    (rest.0 ∙ ap (λ (s : Stepped). after_all s.memory ts) (sym step), (ap (λ (s : Stepped). s.answer) step, subst (λ (s : Stepped). AreDone s.memory ts) (sym step) rest.1))

pub done_over : (m : State) (ns : List Name) (vs ws : List (List ℤ)) (ts : List Task) → m.block ≡ None → cells_of m.entries ≤ m.room → AreHeld m ns vs → lengths ws ≡ lengths vs → map target ts ≡ map Some ns
    → map (work_on (emptied m ns)) ts ≡ map made ws → AllByRecursion (ReadsNoneEmpty (emptied m ns)) ts → (filled (emptied m ns) ns ws ≡ after_all m ts) × AreDone m ts
done_over m ns vs ws ts outside within held same targets works full =
    let there = held-at m ns vs held in
    let distinct = held-distinct m ns vs held in
    let f = each-reads-none (emptied m ns) ns ts (emptied-all m ns) full in
    let r = ran m ns vs ws ts outside within distinct there same targets (sym (works-emptied m ns ts f) ∙ works) f in
    (refilled m ns ws outside distinct (same_count m ns vs ws there same) ∙ r.0, r.1)

reads-mapped : {C : Type 0} (task : C → Task) (s : State) (calls : List C) → AllByRecursion (λ c. ReadsNoneEmpty s (task c)) calls → AllByRecursion (ReadsNoneEmpty s) (map task calls)
reads-mapped task s [] full = tt
reads-mapped task s (c ∷ cs) full = (full.0, reads-mapped task s cs full.1)

-- The integers at the names were taken out, and vectors of as many go back: these are what was taken, or what the calls make.
module _ {C V : Type 0} (task : C → Task) (items : V → List ℤ) (m s : State) (calls : List C) (ns : List Name) (old new : List V) (vs : List (List ℤ)) (outside : m.block ≡ None) (within : cells_of m.entries ≤ m.room)
    (took : s ≡ emptied m ns) (held : AreHeld m ns vs) (olds : map items old ≡ vs) (long : map (λ v. length (items v)) new ≡ map (λ v. length (items v)) old) where
  as_long : lengths (map items new) ≡ lengths vs
  as_long = map-map (λ (l : List ℤ). length l) items new ∙ long ∙ sym (map-map (λ (l : List ℤ). length l) items old) ∙ ap lengths olds

  pub may_go : HasRoomFor s ns (map items new)
  may_go = subst (λ (t : State). HasRoomFor t ns (map items new)) (sym took) (room_for m ns vs (map items new) within held as_long)

  pub all_back : (after : State) → after ≡ filled s ns (map items new) → new ≡ old → after ≡ m
  all_back after is same = is ∙ ap (λ (t : State). filled t ns (map items new)) took ∙ ap (filled (emptied m ns) ns) (ap (map items) same ∙ olds) ∙ put_back m ns vs outside held

  pub all_done : (after : State) → after ≡ filled s ns (map items new) → map (λ c. target (task c)) calls ≡ map Some ns → map (λ v. made (items v)) new ≡ map (λ c. work_on s (task c)) calls
      → AllByRecursion (λ c. ReadsNoneEmpty s (task c)) calls → (after ≡ after_all m (map task calls)) × AreDone m (map task calls)
  all_done after is targets makes full =
      let ts = map task calls in
      let at_targets : map target ts ≡ map Some ns = map-map target task calls ∙ targets in
      let works : map (work_on s) ts ≡ map made (map items new) = map-map (work_on s) task calls ∙ sym makes ∙ sym (map-map made items new) in
      let reads_full = reads-mapped task s calls full in
      let r = done_over m ns vs (map items new) ts outside within held as_long at_targets
      (subst (λ (t : State). map (work_on t) ts ≡ map made (map items new)) took works) (subst (λ (t : State). AllByRecursion (ReadsNoneEmpty t) ts) took reads_full) in
      (is ∙ ap (λ (t : State). filled t ns (map items new)) took ∙ r.0, r.1)

-- one name more

-- the integers of a name are taken out, and then those of others
pub held_next : (m held : State) (n : Name) (ns all : List Name) (xs : List ℤ) (vs : List (List ℤ)) → all ≡ n ∷ ns → IsLawful m → value_at m n ≡ Some (Ints xs) → (ys : List ℤ) × (value_at m n ≡ Some (Ints ys)) × (0 < length ys)
    → held ≡ put m n (Ints []) → AreHeld held ns vs → AreHeld m all (xs ∷ vs)
held_next m held n ns all xs vs are lawful is some left there =
    let same : some.0 ≡ xs = ap ints_of (sym some.1 ∙ is) in
    let count : length some.0 ≡ length xs = ap length same in
    let short : length xs ≤ m.limit = rw is at (value_at-fits m n lawful) in
    subst (λ l. AreHeld m l (xs ∷ vs)) (sym are) (is, omega (arith, count, some.2), short, subst (λ (s : State). AreHeld s ns vs) left there)

-- they may go back, and then all is as before
module _ (m held : State) (n : Name) (xs : List ℤ) (lawful : IsLawful m) (is : value_at m n ≡ Some (Ints xs)) (left : held ≡ put m n (Ints [])) where
  pub back_there : value_at held n ≡ Some (Ints [])
  back_there = ap (λ (s : State). value_at s n) left ∙ value_at-put m n (Ints [])

  pub back_room : cells_of held.entries + length xs ≤ held.room
  back_room =
      let size = size_is m n xs is in
      let cells : cells_of held.entries ≡ cells_of (put m n (Ints [])).entries = ap (λ (s : State). cells_of s.entries) left in
      let room : held.room ≡ m.room = ap (λ (s : State). s.room) left in
      omega (arith, size, cells, room, cells-put m n (Ints []), old_size_le_cells m n, lawful.within)

  pub back_short : length xs ≤ held.limit
  back_short =
      let short : length xs ≤ m.limit = rw is at (value_at-fits m n lawful) in
      let limit : held.limit ≡ m.limit = ap (λ (s : State). s.limit) left in
      omega arith

  pub back_same : (after : State) → m.block ≡ None → after ≡ put held n (Ints xs) → after ≡ m
  back_same after outside given = given ∙ ap (λ (s : State). put s n (Ints xs)) left ∙ put-put m n (Ints []) (Ints xs) outside ∙ put-same m n (Ints xs) outside is

-- the vectors behind those that were there before
pub taken_next : {V : Type 0} (items : V → List ℤ) (old new all : List V) (x : V) (vs : List (List ℤ)) → new ≡ old ++ x ∷ [] → map items all ≡ map items new ++ vs → map items all ≡ map items old ++ items x ∷ vs
taken_next items old new all x vs pushed is =
    is ∙ ap (λ l. map items l ++ vs) pushed ∙ ap (λ l. l ++ vs) (map_push items old x) ∙ append_assoc (map items old) (items x ∷ []) vs

pub filled-none : (m : State) (ns : List Name) → filled m ns [] ≡ m
filled-none m [] = refl
filled-none m (n ∷ ns) = refl

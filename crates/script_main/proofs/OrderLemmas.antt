-- The entries of a memory in the order of their names: `in_order-IsPermutation` and `in_order-IsOrdered` say what `in_order`
-- is, and by `in_order-of` a list with these two and with distinct names is no other.
use Rattle.std.proofs.Common.{◌≡◌, suc, ◌+◌, Bool, true, false, List, [], ◌∷◌, length, get_or, map, refl, sym, ap, ◌∙◌, subst, arith}
use Rattle.std.specs.Bool.{⊤}
use Rattle.std.specs.List.{AllByRecursion, IsDistinct}
use Rattle.std.specs.List.Sorted.{IsPermutation, IsSortedBy}
use Rattle.std.specs.Map.{keys_of}
use Rattle.std.specs.Cmp.{IsStrictWeakOrder}
use Rattle.std.specs.Cmp.Lexicographic.{slice_cmp}
use Rattle.std.proofs.Common.{Ordering, Less, Equal, Greater}
use Rattle.std.specs.Ordering.{is_lt, nat_cmp, ordering_reverse}
use Rattle.std.proofs.lemmas.Cmp.{nat_list_cmp_total, nat_list_eq_equiv}
use Rattle.std.proofs.lemmas.Map.Keys.{IsDistinct-IsPermutation}
use Rattle.std.proofs.lemmas.Map.Lookups.{exact_bytes}
use Rattle.std.specs.Borrow.{Bor}
use Rattle.std.proofs.lemmas.List.{length-map, get_or-map}
use Rattle.std.proofs.lemmas.List.Elements.{All-from_recursion, recursion_from_All}
use Rattle.std.proofs.lemmas.List.Sorted.{ranks_by, sorted_far, All-permutation, IsPermutation-refl, IsPermutation-sym, IsPermutation-cons, IsPermutation-trans, IsPermutation-middle, IsPermutation-map}
use Rattle.vector_memory.specs.declared.name.Name.{Name}
use Rattle.vector_memory.specs.declared.value.Value.{Value}
use Rattle.vector_memory.specs.Contents.{Content}
use Rattle.call_history.specs.Shown.{shown}
use Rattle.vector_memory.specs.Names.{same_name}
use Rattle.script_main.specs.Reports.{is_before, placed, in_order}

weak : IsStrictWeakOrder is_before
weak = ranks_by nat_list_cmp_total (λ (e : Name × Content). e.0)

-- none comes before an earlier one
abbrev pub IsOrdered : List (Name × Content) → Type 0
IsOrdered [] = ⊤
IsOrdered (e ∷ es) = AllByRecursion (λ f. is_before f e ≡ false) es × IsOrdered es

-- each comes behind all earlier ones
abbrev IsRising : List (Name × Content) → Type 0
IsRising [] = ⊤
IsRising (e ∷ es) = AllByRecursion (λ f. slice_cmp nat_cmp e.0 f.0 ≡ Less) es × IsRising es

each : {P Q : Name × Content → Type 0} → ((e : Name × Content) → P e → Q e) → (es : List (Name × Content)) → AllByRecursion P es → AllByRecursion Q es
each f [] h = tt
each f (e ∷ es) h = (f e h.0, each f es h.1)

all-placed : (P : Name × Content → Type 0) (e : Name × Content) (es : List (Name × Content)) → P e → AllByRecursion P es → AllByRecursion P (placed e es)
all-placed P e [] here rest = (here, tt)
all-placed P e (f ∷ fs) here rest = by (is_before f e) refl (all-placed P e fs here rest.1)
  where
    by : (t : Bool) → is_before f e ≡ t → AllByRecursion P (placed e fs) → AllByRecursion P (placed e (f ∷ fs))
    by true was behind = rw was (rest.0, behind)
    by false was behind = rw was (here, rest)

placed-IsOrdered : (e : Name × Content) (es : List (Name × Content)) → IsOrdered es → IsOrdered (placed e es)
placed-IsOrdered e [] h = (tt, tt)
placed-IsOrdered e (f ∷ fs) h = by (is_before f e) refl (placed-IsOrdered e fs h.1)
  where
    by : (t : Bool) → is_before f e ≡ t → IsOrdered (placed e fs) → IsOrdered (placed e (f ∷ fs))
    by true was behind = rw was (all-placed (λ d. is_before d f ≡ false) e fs (weak.one_way f e was) h.0, behind)
    by false was behind = rw was ((was, each (λ d later. weak.chain d f e later was) fs h.0), h)

pub in_order-IsOrdered : (es : List (Name × Content)) → IsOrdered (in_order es)
in_order-IsOrdered [] = tt
in_order-IsOrdered (e ∷ es) = placed-IsOrdered e (in_order es) (in_order-IsOrdered es)

placed-IsPermutation : (e : Name × Content) (es : List (Name × Content)) → IsPermutation (e ∷ es) (placed e es)
placed-IsPermutation e [] = IsPermutation-refl (e ∷ [])
placed-IsPermutation e (f ∷ fs) = by (is_before f e) refl (placed-IsPermutation e fs)
  where
    by : (t : Bool) → is_before f e ≡ t → IsPermutation (e ∷ fs) (placed e fs) → IsPermutation (e ∷ f ∷ fs) (placed e (f ∷ fs))
    by true was behind = rw was (IsPermutation-trans (e ∷ f ∷ fs) (f ∷ e ∷ fs) (f ∷ placed e fs) (IsPermutation-middle (e ∷ []) f fs) (IsPermutation-cons f (e ∷ fs) (placed e fs) behind))
    by false was behind = rw was (IsPermutation-refl (e ∷ f ∷ fs))

pub in_order-IsPermutation : (es : List (Name × Content)) → IsPermutation es (in_order es)
in_order-IsPermutation [] = IsPermutation-refl []
in_order-IsPermutation (e ∷ es) =
    IsPermutation-trans (e ∷ es) (e ∷ in_order es) (placed e (in_order es)) (IsPermutation-cons e es (in_order es) (in_order-IsPermutation es)) (placed-IsPermutation e (in_order es))

-- a sorted list, element by element
pub IsOrdered-sorted : (es : List (Name × Content)) → IsSortedBy is_before es → IsOrdered es
IsOrdered-sorted [] up = tt
IsOrdered-sorted (e ∷ es) up = (
  recursion_from_All (λ f. is_before f e ≡ false) es (λ k d lt. sorted_far is_before weak (e ∷ es) up 0 (suc k) d (omega arith) (omega arith)),
  IsOrdered-sorted es (λ k d low lt. let far = sorted_far is_before weak (e ∷ es) up (suc k) (suc (k + 1)) d (omega arith) (omega arith) in far),
)

-- of two names that are not one the later comes behind
later : (d e : Name) (r s : Ordering) → slice_cmp nat_cmp d e ≡ r → slice_cmp nat_cmp e d ≡ s → r ≡ ordering_reverse s → is_lt s ≡ false → (r ≡ Equal → ⊥) → r ≡ Less
later d e r Less is back turn not differ = absurd cc
later d e r Equal is back turn not differ = absurd (differ turn)
later d e r Greater is back turn not differ = turn

differ-names : (d e : Name) → same_name d e ≡ false → slice_cmp nat_cmp d e ≡ Equal → ⊥
differ-names d e not is =
    let same : d ≡ e = exact_bytes d e is in
    let self : same_name d e ≡ true = subst (λ (t : Name). same_name d t ≡ true) same (nat_list_eq_equiv.refl d) in
    absurd cc

rising-behind : (e : Name × Content) (es : List (Name × Content)) → AllByRecursion (λ f. is_before f e ≡ false) es → AllByRecursion (λ k. same_name e.0 k ≡ false) (keys_of es)
    → AllByRecursion (λ f. slice_cmp nat_cmp e.0 f.0 ≡ Less) es
rising-behind e [] h k = tt
rising-behind e (f ∷ fs) h k = (
  later e.0 f.0 (slice_cmp nat_cmp e.0 f.0) (slice_cmp nat_cmp f.0 e.0) refl refl (nat_list_cmp_total.antisymm e.0 f.0) h.0 (differ-names e.0 f.0 k.0),
  rising-behind e fs h.1 k.1,
)

rising : (es : List (Name × Content)) → IsOrdered es → IsDistinct same_name (keys_of es) → IsRising es
unfolding IsDistinct
rising [] h d = tt
rising (e ∷ es) h d = (rising-behind e es h.0 d.0, rising es h.1 d.1)

not-behind-itself : (e : Name × Content) → slice_cmp nat_cmp e.0 e.0 ≡ Less → ⊥
not-behind-itself e less =
    let turn = nat_list_cmp_total.antisymm e.0 e.0 in
    let back : ordering_reverse (slice_cmp nat_cmp e.0 e.0) ≡ Greater = ap ordering_reverse less in
    absurd cc

not-both-behind : (d e : Name × Content) → slice_cmp nat_cmp d.0 e.0 ≡ Less → slice_cmp nat_cmp e.0 d.0 ≡ Less → ⊥
not-both-behind d e less back =
    let turn = nat_list_cmp_total.antisymm d.0 e.0 in
    let other : ordering_reverse (slice_cmp nat_cmp e.0 d.0) ≡ Greater = ap ordering_reverse back in
    absurd cc

-- the same entry, or one behind it
data FromOn (e f : Name × Content) : Type 0 where
  here : f ≡ e → FromOn e f
  behind : slice_cmp nat_cmp e.0 f.0 ≡ Less → FromOn e f

same-first : (d e : Name × Content) → FromOn d e → FromOn e d → d ≡ e
same-first d e (here is) back = sym is
same-first d e (behind less) (here is) = is
same-first d e (behind less) (behind back) = absurd (not-both-behind d e less back)

-- this entry, or one of which P holds
data OrIs (e : Name × Content) (P : Name × Content → Type 0) (f : Name × Content) : Type 0 where
  itself : f ≡ e → OrIs e P f
  other : P f → OrIs e P f

without-first : (e : Name × Content) (P : Name × Content → Type 0) (f : Name × Content) → slice_cmp nat_cmp e.0 f.0 ≡ Less → OrIs e P f → P f
without-first e P f less (itself is) = absurd (not-behind-itself e (subst (λ (t : Name × Content). slice_cmp nat_cmp e.0 t.0 ≡ Less) is less))
without-first e P f less (other h) = h

tails : (e : Name × Content) (ds es : List (Name × Content)) → AllByRecursion (λ f. slice_cmp nat_cmp e.0 f.0 ≡ Less) es
    → ((P : Name × Content → Type 0) → AllByRecursion P (e ∷ ds) → AllByRecursion P (e ∷ es)) → (P : Name × Content → Type 0) → AllByRecursion P ds → AllByRecursion P es
tails e ds es up to P h = both es up (to (OrIs e P) (itself refl, each (λ f k. other k) ds h)).1
  where
    both : (fs : List (Name × Content)) → AllByRecursion (λ f. slice_cmp nat_cmp e.0 f.0 ≡ Less) fs → AllByRecursion (OrIs e P) fs → AllByRecursion P fs
    both [] u k = tt
    both (f ∷ fs) u k = (without-first e P f u.0 k.0, both fs u.1 k.1)

-- two rising lists with the same elements
same-rising : (ds es : List (Name × Content)) → IsRising ds → IsRising es → ((P : Name × Content → Type 0) → AllByRecursion P ds → AllByRecursion P es)
    → ((P : Name × Content → Type 0) → AllByRecursion P es → AllByRecursion P ds) → ds ≡ es
same-rising [] [] up up' to back = refl
same-rising [] (e ∷ es) up up' to back = absurd (to (λ f. ⊥) tt).0
same-rising (d ∷ ds) [] up up' to back = absurd (back (λ f. ⊥) tt).0
same-rising (d ∷ ds) (e ∷ es) up up' to back =
    let first : FromOn d e = (to (FromOn d) (here refl, each (λ f less. behind less) ds up.0)).0 in
    let other : FromOn e d = (back (FromOn e) (here refl, each (λ f less. behind less) es up'.0)).0 in
    let is : d ≡ e = same-first d e first other in
    let to' : (P : Name × Content → Type 0) → AllByRecursion P (e ∷ ds) → AllByRecursion P (e ∷ es) = subst (λ (t : Name × Content). (P : Name × Content → Type 0) → AllByRecursion P (t ∷ ds) → AllByRecursion P (e ∷ es)) is to in
    let back' : (P : Name × Content → Type 0) → AllByRecursion P (e ∷ es) → AllByRecursion P (e ∷ ds) = subst (λ (t : Name × Content). (P : Name × Content → Type 0) → AllByRecursion P (e ∷ es) → AllByRecursion P (t ∷ ds)) is back in
    let up-e = subst (λ (t : Name × Content). AllByRecursion (λ f. slice_cmp nat_cmp t.0 f.0 ≡ Less) ds) is up.0 in
    let rest = same-rising ds es up.1 up'.1 (tails e ds es up'.0 to') (tails e es ds up-e back') in
    subst (λ (t : Name × Content). t ∷ ds ≡ e ∷ es) (sym is) (ap (λ (t : List (Name × Content)). e ∷ t) rest)

every : (ds es : List (Name × Content)) → IsPermutation ds es → (P : Name × Content → Type 0) → AllByRecursion P ds → AllByRecursion P es
every ds es same P h = recursion_from_All P es (All-permutation P ds es same (All-from_recursion P ds h))

pub in_order-of : (es listed : List (Name × Content)) → IsDistinct same_name (keys_of es) → IsPermutation es listed → IsSortedBy is_before listed → listed ≡ in_order es
in_order-of es listed distinct same up =
    let distinct-in : (fs : List (Name × Content)) → IsPermutation es fs → IsDistinct same_name (keys_of fs) =
    λ fs p. IsDistinct-IsPermutation same_name nat_list_eq_equiv.symm (keys_of es) (keys_of fs) (IsPermutation-map (λ (e : Name × Content). e.0) es fs p) distinct in
    let ordered = in_order-IsPermutation es in
    let between : IsPermutation listed (in_order es) = IsPermutation-trans listed es (in_order es) (IsPermutation-sym es listed same) ordered in
    same-rising listed (in_order es) (rising listed (IsOrdered-sorted listed up) (distinct-in listed same)) (rising (in_order es) (in_order-IsOrdered es) (distinct-in (in_order es) ordered))
    (every listed (in_order es) between) (every (in_order es) listed (IsPermutation-sym listed (in_order es) between))

-- entries as they are lent, sorted
pub IsSortedBy-shown : (es : List (Bor Name × Bor Value)) → IsSortedBy (λ d e. is_before (shown d) (shown e)) es → IsSortedBy is_before (map shown es)
IsSortedBy-shown [] up = λ k d low high. absurd (omega arith)
IsSortedBy-shown (e ∷ es) up = λ k d low high.
    let long : length (map shown (e ∷ es)) ≡ length (e ∷ es) = length-map (e ∷ es) shown in
    let first = get_or-map shown (e ∷ es) (k + 1) e d (omega arith) in
    let second = get_or-map shown (e ∷ es) k e d (omega arith) in
    ap (λ (x : Name × Content). is_before x (get_or (map shown (e ∷ es)) k d)) first ∙ ap (λ (x : Name × Content). is_before (shown (get_or (e ∷ es) (k + 1) e)) x) second ∙ up k e low (omega arith)

pub weak-shown : IsStrictWeakOrder (λ (d e : Bor Name × Bor Value). is_before (shown d) (shown e))
weak-shown = record { one_way = λ d e. weak.one_way (shown d) (shown e); chain = λ d e f. weak.chain (shown d) (shown e) (shown f) }

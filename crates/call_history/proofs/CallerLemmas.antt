-- What a history has of its callers, as it grows.
use Rattle.std.proofs.Common.{inl, inr, ◌≡◌, ◌≢◌, ◌==◌, ℕ, zero, suc, ◌+◌, ◌<◌, ◌≤◌, Bool, true, false, cond, List, [], ◌∷◌, ◌++◌, map, length, slice_index, slice_set, refl, sym, ap, ◌∙◌, arith, append-nil, length-append, add-zero, eq-eqb, ne_eqb}
use Rattle.std.specs.List.{range_with_len}
use Rattle.std.proofs.lemmas.List.{map-append, length-map, get_or-set_same, get_or-set_other}
use Rattle.std.proofs.lemmas.List.Elements.{filter-append}
use Rattle.std.proofs.lemmas.Bool.Decides.{eqb_tells}
use Rattle.cvl_text.specs.declared.call.Call.{Call}
use Rattle.call_history.specs.declared.entry.Entry.{Entry}
use Rattle.call_history.specs.History.{entry, call_of, Begins}
use Rattle.call_history.specs.Callers.{entries_by, calls_by, ticket_of, IsTicketed, HasLawfulCallers, caller_limit}

pub entries_by-append : (k : ℕ) (xs ys : List Entry) → entries_by k (xs ++ ys) ≡ entries_by k xs ++ entries_by k ys
entries_by-append k xs ys = filter-append (λ e. e.caller == k) xs ys

pub calls_by-append : (k : ℕ) (xs ys : List Entry) → calls_by k (xs ++ ys) ≡ calls_by k xs ++ calls_by k ys
calls_by-append k xs ys = ap (map call_of) (entries_by-append k xs ys) ∙ map-append call_of (entries_by k xs) (entries_by k ys)

pub calls_by-own : (k ticket : ℕ) (call : Call) → calls_by k (entry k ticket call ∷ []) ≡ call ∷ []
calls_by-own k ticket call = ap (λ b. map call_of (cond b (entry k ticket call ∷ []) [])) (eq-eqb k k refl)

pub calls_by-other : (j k ticket : ℕ) (call : Call) → k ≢ j → calls_by j (entry k ticket call ∷ []) ≡ []
calls_by-other j k ticket call other = ap (λ b. map call_of (cond b (entry k ticket call ∷ []) [])) (ne_eqb k j other)

entries_by-le : (k : ℕ) (history : List Entry) → length (entries_by k history) ≤ length history
entries_by-le k [] = omega arith
entries_by-le k (e ∷ es) = go (e.caller == k) (entries_by-le k es)
  where
    go : (b : Bool) → length (entries_by k es) ≤ length es → length (cond b (e ∷ entries_by k es) (entries_by k es)) ≤ length (e ∷ es)
    go true le = omega arith
    go false le = omega arith

pub calls_by-le : (k : ℕ) (history : List Entry) → length (calls_by k history) ≤ length history
calls_by-le k history = omega (arith, length-map (entries_by k history) call_of, entries_by-le k history)

range-snoc : (a n : ℕ) → range_with_len a n ++ (a + n) ∷ [] ≡ range_with_len a (suc n)
range-snoc a zero = ap (λ (x : ℕ). x ∷ []) (add-zero a)
range-snoc a (suc n) =
    let moved : a + suc n ≡ a + 1 + n = omega arith in
    ap (λ l. a ∷ l) (ap (λ (x : ℕ). range_with_len (a + 1) n ++ x ∷ []) moved ∙ range-snoc (a + 1) n)

numbered-more : (es : List Entry) (e : Entry) (b : Bool) → map ticket_of es ≡ range_with_len 0 (length es) → (b ≡ true → e.ticket ≡ length es)
    → map ticket_of (es ++ cond b (e ∷ []) []) ≡ range_with_len 0 (length (es ++ cond b (e ∷ []) []))
numbered-more es e true known next =
    let mine : e.ticket ≡ 0 + length es = omega (arith, next refl) in
    let longer : suc (length es) ≡ length (es ++ e ∷ []) = omega (arith, length-append es (e ∷ [])) in
    map-append ticket_of es (e ∷ []) ∙ (ap (λ l. l ++ e.ticket ∷ []) known
    ∙ (ap (λ (n : ℕ). range_with_len 0 (length es) ++ n ∷ []) mine ∙ (range-snoc 0 (length es) ∙ ap (range_with_len 0) longer)))
numbered-more es e false known next = rw (append-nil es) known

eqb-is : (j k : ℕ) → (j == k) ≡ true → j ≡ k
eqb-is j k e = elim (eqb_tells j k) [ inl same ↦ same.1 | inr other ↦ absurd (cc (e, other.0)) ]

-- an entry with its caller's next ticket leaves the tickets in order
pub ticketed-push : (history : List Entry) (e : Entry) → IsTicketed history → e.ticket ≡ length (calls_by e.caller history) → IsTicketed (history ++ e ∷ [])
ticketed-push history e known next k =
    let of_k : (e.caller == k) ≡ true → e.ticket ≡ length (entries_by k history) =
    λ same. next ∙ (length-map (entries_by e.caller history) call_of ∙ ap (λ (j : ℕ). length (entries_by j history)) (eqb-is e.caller k same)) in
    ap (map ticket_of) (entries_by-append k history (e ∷ [])) ∙ (numbered-more (entries_by k history) e (e.caller == k) (known k) of_k
    ∙ ap (λ es. range_with_len 0 (length es)) (sym (entries_by-append k history (e ∷ []))))

pub lawful_callers-push : (history : List Entry) (e : Entry) → HasLawfulCallers history → e.caller < caller_limit → HasLawfulCallers (history ++ e ∷ [])
lawful_callers-push [] e known lawful = (lawful, tt)
lawful_callers-push (x ∷ xs) e known lawful = (known.0, lawful_callers-push xs e known.1 lawful)

-- the numbers of entries, of which one is raised with its caller's entry
pub counted-push : (history : List Entry) (e : Entry) (tickets : List ℕ) → e.caller < length tickets → e.ticket ≡ length (calls_by e.caller history)
    → (k : ℕ) → slice_index tickets k ≡ length (calls_by k history) → slice_index (slice_set tickets e.caller (e.ticket + 1)) k ≡ length (calls_by k (history ++ e ∷ []))
counted-push history e tickets within next k known =
    let grown : length (calls_by k (history ++ e ∷ [])) ≡ length (calls_by k history) + length (calls_by k (e ∷ [])) =
    ap length (calls_by-append k history (e ∷ [])) ∙ length-append (calls_by k history) (calls_by k (e ∷ [])) in
    elim (eqb_tells e.caller k) [
      | inl same ↦
          let one : length (calls_by k (e ∷ [])) ≡ 1 = ap (λ b. length (map call_of (cond b (e ∷ []) []))) same.0 in
          let raised : slice_index (slice_set tickets e.caller (e.ticket + 1)) e.caller ≡ e.ticket + 1 = get_or-set_same tickets e.caller (e.ticket + 1) 0 within in
          let had : length (calls_by e.caller history) ≡ length (calls_by k history) = ap (λ (j : ℕ). length (calls_by j history)) same.1 in
          ap (λ (j : ℕ). slice_index (slice_set tickets e.caller (e.ticket + 1)) j) (sym same.1) ∙ (raised ∙ omega (arith, grown, one, had, next))
      | inr other ↦
          let none : length (calls_by k (e ∷ [])) ≡ 0 = ap (λ b. length (map call_of (cond b (e ∷ []) []))) other.0 in
          let kept : slice_index (slice_set tickets e.caller (e.ticket + 1)) k ≡ slice_index tickets k = get_or-set_other tickets e.caller k (e.ticket + 1) 0 (λ same. other.1 (sym same)) in
          kept ∙ (known ∙ omega (arith, grown, none))
    ]

empty_by_length : {A : Type 0} (xs : List A) → length xs ≡ 0 → xs ≡ []
empty_by_length [] e = refl
empty_by_length (x ∷ xs) e = absurd (omega arith)

-- a list that is itself with something before and after a middle has nothing there
pub middle_alone : (own between calls rest : List Call) → own ++ (between ++ (calls ++ rest)) ≡ own ++ calls → own ++ (between ++ calls) ≡ own ++ calls
middle_alone own between calls rest e =
    let sizes : length own + (length between + (length calls + length rest)) ≡ length own + length calls =
    ap (λ (n : ℕ). length own + (length between + n)) (sym (length-append calls rest)) ∙ (ap (λ (n : ℕ). length own + n) (sym (length-append between (calls ++ rest)))
    ∙ (sym (length-append own (between ++ (calls ++ rest))) ∙ (ap length e ∙ length-append own calls))) in
    ap (λ b. own ++ (b ++ calls)) (empty_by_length between (omega arith))

-- a beginning that has more of a caller than the whole has no more
pub calls_stay : (k : ℕ) (xs ys : List Entry) (own extra : List Call) → Begins xs ys → calls_by k xs ≡ own ++ extra → calls_by k ys ≡ own → calls_by k xs ≡ own
calls_stay k xs ys own extra p has whole =
    let rest : List Call = calls_by k p.0 in
    let all : (own ++ extra) ++ rest ≡ own = ap (λ l. l ++ rest) (sym has) ∙ (sym (calls_by-append k xs p.0) ∙ (ap (calls_by k) (sym p.1) ∙ whole)) in
    let sizes : length own + length extra + length rest ≡ length own =
    ap (λ (n : ℕ). n + length rest) (sym (length-append own extra)) ∙ (sym (length-append (own ++ extra) rest) ∙ ap length all) in
    has ∙ (ap (λ l. own ++ l) (empty_by_length extra (omega arith)) ∙ append-nil own)

-- what is between two beginnings with the same calls of a caller has those calls
pub calls_between : (k : ℕ) (xs ys zs : List Entry) (own : List Call) → Begins xs ys → Begins ys zs → calls_by k xs ≡ own → calls_by k zs ≡ own → calls_by k ys ≡ own
calls_between k xs ys zs own p q low high =
    calls_stay k ys zs own (calls_by k p.0) q (ap (calls_by k) p.1 ∙ (calls_by-append k xs p.0 ∙ ap (λ l. l ++ calls_by k p.0) low)) high

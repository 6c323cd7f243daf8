-- A value in place of another: what the names stand for afterwards (`lookup-inserted`, `value_at-put`, `put-put`), and that a
-- value that is no larger than the one before is not refused (`fits_in_place`), also where the place was left empty between
-- (`fits_back`).
use Rattle.std.proofs.Common.{◌≡◌, ◌≤◌, Bool, true, false, cond, not, ◌&&◌, leb, List, [], ◌∷◌, length, Option, None, Some, refl, sym, ap, ◌∙◌, arith}
use Rattle.std.specs.Prelude.{is_some, unwrap_or}
use Rattle.std.specs.Option.{option_map}
use Rattle.std.specs.Map.{lookup}
use Rattle.std.proofs.lemmas.Bool.{le-ltb}
use Rattle.std.proofs.lemmas.Cmp.{nat_list_eq_equiv}
use Rattle.indexmap.specs.IndexMap.{insert_entry}
use Rattle.vector_memory.specs.declared.name.Name.{Name}
use Rattle.vector_memory.specs.declared.memory.StoreFault.TheVariants.{NoRoom, TooManyNames}
use Rattle.vector_memory.specs.Contents.{Content, size_of}
use Rattle.vector_memory.specs.Names.{same_name}
use Rattle.vector_memory.specs.States.{State, Began, spent, IsLawful, value_at, cells_after, old_size, refusal, put, name_limit}
use Rattle.vector_memory.proofs.StateLemmas.{cells-put, old_size_le_cells}

-- a name apart from n is apart from each name that is n
pub apart : (k n e : Name) → same_name n e ≡ true → same_name n k ≡ false → same_name k e ≡ false
apart k n e h f = nat_list_eq_equiv.symm k e ∙ sym (nat_list_eq_equiv.congr n e k h) ∙ f

pub lookup-inserted : (es : List (Name × Content)) (n k : Name) (v : Content) → same_name n k ≡ false → lookup (same_name k) (insert_entry same_name es n v) ≡ lookup (same_name k) es
lookup-inserted [] n k v f = ap (λ b. cond {A = Option Content} b (Some v) None) (nat_list_eq_equiv.symm k n ∙ f)
lookup-inserted (e ∷ es) n k v f = by (same_name n e.0) refl (lookup-inserted es n k v f)
  where
    by : (b : Bool) → same_name n e.0 ≡ b → lookup (same_name k) (insert_entry same_name es n v) ≡ lookup (same_name k) es
        → lookup (same_name k) (cond b ((e.0, v) ∷ es) (e ∷ insert_entry same_name es n v)) ≡ cond (same_name k e.0) (Some e.1) (lookup (same_name k) es)
    by true h rest =
        let g = apart k n e.0 h f in
        ap (λ b. cond b (Some v) (lookup (same_name k) es)) g ∙ sym (ap (λ b. cond b (Some e.1) (lookup (same_name k) es)) g)
    by false h rest = ap (cond (same_name k e.0) (Some e.1)) rest

itself : (n : Name) → same_name n n ≡ true
itself n = nat_list_eq_equiv.refl n

lookup-put : (es : List (Name × Content)) (n : Name) (v : Content) → lookup (same_name n) (insert_entry same_name es n v) ≡ Some v
lookup-put [] n v = ap (λ b. cond {A = Option Content} b (Some v) None) (itself n)
lookup-put (e ∷ es) n v = by (same_name n e.0) refl (lookup-put es n v)
  where
    by : (b : Bool) → same_name n e.0 ≡ b → lookup (same_name n) (insert_entry same_name es n v) ≡ Some v
        → lookup (same_name n) (cond b ((e.0, v) ∷ es) (e ∷ insert_entry same_name es n v)) ≡ Some v
    by true h rest = ap (λ b. cond b (Some v) (lookup (same_name n) es)) h
    by false h rest = ap (λ b. cond b (Some e.1) (lookup (same_name n) (insert_entry same_name es n v))) h ∙ rest

pub value_at-put : (m : State) (n : Name) (v : Content) → value_at (put m n v) n ≡ Some v
value_at-put m n v = lookup-put m.entries n v

insert-insert : (es : List (Name × Content)) (n : Name) (v w : Content) → insert_entry same_name (insert_entry same_name es n v) n w ≡ insert_entry same_name es n w
insert-insert [] n v w = ap (λ b. cond b ((n, w) ∷ []) ((n, v) ∷ insert_entry same_name [] n w)) (itself n)
insert-insert (e ∷ es) n v w = by (same_name n e.0) refl (insert-insert es n v w)
  where
    by : (b : Bool) → same_name n e.0 ≡ b → insert_entry same_name (insert_entry same_name es n v) n w ≡ insert_entry same_name es n w
        → insert_entry same_name (cond b ((e.0, v) ∷ es) (e ∷ insert_entry same_name es n v)) n w ≡ cond b ((e.0, w) ∷ es) (e ∷ insert_entry same_name es n w)
    by true h rest = ap (λ b. cond b ((e.0, w) ∷ es) ((e.0, v) ∷ insert_entry same_name es n w)) h
    by false h rest = ap (λ b. cond b ((e.0, w) ∷ insert_entry same_name es n v) (e ∷ insert_entry same_name (insert_entry same_name es n v) n w)) h ∙ ap (λ l. e ∷ l) rest

-- outside a block no change is counted
unspent : (o : Option Began) → o ≡ None → spent true (spent true o) ≡ spent true o
unspent None e = refl
unspent (Some b) e = absurd cc

-- of two values that are put at one name the second stands
pub put-put : (m : State) (n : Name) (v w : Content) → m.block ≡ None → put (put m n v) n w ≡ put m n w
put-put m n v w outside =
    ap (λ (es : List (Name × Content)). record { entries = es; room = m.room; limit = m.limit; block = spent true (spent true m.block) }) (insert-insert m.entries n v w)
    ∙ ap (λ (o : Option Began). record { entries = insert_entry same_name m.entries n w; room = m.room; limit = m.limit; block = o }) (unspent m.block outside)

pub not_refused : (m : State) (n : Name) (old v : Content) → value_at m n ≡ Some old → cells_after m n v ≤ m.room → refusal m n v ≡ None
not_refused m n old v there fits =
    ap (λ b. cond b (Some NoRoom) (cond (not (is_some (value_at m n)) && leb name_limit (length m.entries)) (Some TooManyNames) None)) (le-ltb m.room (cells_after m n v) fits)
    ∙ ap (λ (o : Option Content). cond (not (is_some o) && leb name_limit (length m.entries)) (Some TooManyNames) None) there

-- a value that is no larger than the one before
pub fits_in_place : (m : State) (n : Name) (old v : Content) → IsLawful m → value_at m n ≡ Some old → size_of v ≤ size_of old → refusal m n v ≡ None
fits_in_place m n old v lawful there few =
    let size : old_size m n ≡ size_of old = ap (λ (o : Option Content). unwrap_or (option_map size_of o) 0) there in
    not_refused m n old v there (omega (arith, old_size_le_cells m n, lawful.within))

-- the same behind a value of no items
pub fits_back : (m : State) (n : Name) (old none v : Content) → IsLawful m → value_at m n ≡ Some old → size_of none ≡ 0 → size_of v ≤ size_of old → refusal (put m n none) n v ≡ None
fits_back m n old none v lawful there empty few =
    let size : old_size m n ≡ size_of old = ap (λ (o : Option Content). unwrap_or (option_map size_of o) 0) there in
    let now = value_at-put m n none in
    let size_now : old_size (put m n none) n ≡ size_of none = ap (λ (o : Option Content). unwrap_or (option_map size_of o) 0) now in
    not_refused (put m n none) n none v now (omega (arith, cells-put m n none, old_size_le_cells m n, lawful.within))

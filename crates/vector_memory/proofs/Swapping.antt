-- Values at two names: in which order they are put makes no difference where one of the names is there (`put-swapped`), and a value that
-- is put where it stands changes nothing (`put-same`).
use Rattle.std.proofs.Common.{◌≡◌, Bool, true, false, cond, List, [], ◌∷◌, Option, None, Some, refl, sym, ap, ◌∙◌}
use Rattle.std.specs.Prelude.{is_some}
use Rattle.std.specs.Map.{lookup}
use Rattle.indexmap.specs.IndexMap.{insert_entry}
use Rattle.vector_memory.specs.declared.name.Name.{Name}
use Rattle.vector_memory.specs.Contents.{Content}
use Rattle.vector_memory.specs.Names.{same_name}
use Rattle.vector_memory.specs.States.{State, put, spent, value_at}
use Rattle.vector_memory.proofs.Putting.{apart}

insert-swapped : (es : List (Name × Content)) (n k : Name) (a b : Content) → is_some (lookup (same_name n) es) ≡ true → same_name n k ≡ false
    → insert_entry same_name (insert_entry same_name es k a) n b ≡ insert_entry same_name (insert_entry same_name es n b) k a
insert-swapped [] n k a b there f = absurd cc
insert-swapped (e ∷ es) n k a b there f = by (same_name n e.0) refl (same_name k e.0) refl (λ further. insert-swapped es n k a b further f)
  where
    by : (p : Bool) → same_name n e.0 ≡ p → (q : Bool) → same_name k e.0 ≡ q
        → (is_some (lookup (same_name n) es) ≡ true → insert_entry same_name (insert_entry same_name es k a) n b ≡ insert_entry same_name (insert_entry same_name es n b) k a)
        → insert_entry same_name (cond (same_name k e.0) ((e.0, a) ∷ es) (e ∷ insert_entry same_name es k a)) n b ≡ insert_entry same_name (cond (same_name n e.0) ((e.0, b) ∷ es) (e ∷ insert_entry same_name es n b)) k a
    by true h q g rest =
        let no = apart k n e.0 h f in
        ap (λ c. insert_entry same_name (cond c ((e.0, a) ∷ es) (e ∷ insert_entry same_name es k a)) n b) no
        ∙ ap (λ c. cond c ((e.0, b) ∷ insert_entry same_name es k a) (e ∷ insert_entry same_name (insert_entry same_name es k a) n b)) h
        ∙ sym (ap (λ c. cond c ((e.0, a) ∷ es) ((e.0, b) ∷ insert_entry same_name es k a)) no)
        ∙ sym (ap (λ c. insert_entry same_name (cond c ((e.0, b) ∷ es) (e ∷ insert_entry same_name es n b)) k a) h)
    by false h true g rest =
        ap (λ c. insert_entry same_name (cond c ((e.0, a) ∷ es) (e ∷ insert_entry same_name es k a)) n b) g
        ∙ ap (λ c. cond c ((e.0, b) ∷ es) ((e.0, a) ∷ insert_entry same_name es n b)) h
        ∙ sym (ap (λ c. cond c ((e.0, a) ∷ insert_entry same_name es n b) (e ∷ insert_entry same_name (insert_entry same_name es n b) k a)) g)
        ∙ sym (ap (λ c. insert_entry same_name (cond c ((e.0, b) ∷ es) (e ∷ insert_entry same_name es n b)) k a) h)
    by false h false g rest =
        let further : is_some (lookup (same_name n) es) ≡ true = sym (ap (λ c. is_some (cond c (Some e.1) (lookup (same_name n) es))) h) ∙ there in
        ap (λ c. insert_entry same_name (cond c ((e.0, a) ∷ es) (e ∷ insert_entry same_name es k a)) n b) g
        ∙ ap (λ c. cond c ((e.0, b) ∷ insert_entry same_name es k a) (e ∷ insert_entry same_name (insert_entry same_name es k a) n b)) h
        ∙ ap (λ l. e ∷ l) (rest further)
        ∙ sym (ap (λ c. cond c ((e.0, a) ∷ insert_entry same_name es n b) (e ∷ insert_entry same_name (insert_entry same_name es n b) k a)) g)
        ∙ sym (ap (λ c. insert_entry same_name (cond c ((e.0, b) ∷ es) (e ∷ insert_entry same_name es n b)) k a) h)

pub put-swapped : (m : State) (n k : Name) (x a b : Content) → value_at m n ≡ Some x → same_name n k ≡ false → put (put m k a) n b ≡ put (put m n b) k a
put-swapped m n k x a b is f =
    ap (λ (es : List (Name × Content)). record { entries = es; room = m.room; limit = m.limit; block = spent true (spent true m.block) }) (insert-swapped m.entries n k a b (ap is_some is) f)

insert-same : (es : List (Name × Content)) (n : Name) (v : Content) → lookup (same_name n) es ≡ Some v → insert_entry same_name es n v ≡ es
insert-same [] n v is = absurd cc
insert-same (e ∷ es) n v is = by (same_name n e.0) refl (λ there. insert-same es n v there)
  where
    by : (b : Bool) → same_name n e.0 ≡ b → (lookup (same_name n) es ≡ Some v → insert_entry same_name es n v ≡ es) → cond (same_name n e.0) ((e.0, v) ∷ es) (e ∷ insert_entry same_name es n v) ≡ e ∷ es
    by true h rest =
        let here : Some e.1 ≡ Some v = sym (ap (λ b. cond b (Some e.1) (lookup (same_name n) es)) h) ∙ is in
        let value : v ≡ e.1 = cc in
        ap (λ b. cond b ((e.0, v) ∷ es) (e ∷ insert_entry same_name es n v)) h ∙ ap (λ (x : Content). (e.0, x) ∷ es) value
    by false h rest =
        let further : lookup (same_name n) es ≡ Some v = sym (ap (λ b. cond b (Some e.1) (lookup (same_name n) es)) h) ∙ is in
        ap (λ b. cond b ((e.0, v) ∷ es) (e ∷ insert_entry same_name es n v)) h ∙ ap (λ l. e ∷ l) (rest further)

pub put-same : (m : State) (n : Name) (v : Content) → m.block ≡ None → value_at m n ≡ Some v → put m n v ≡ m
put-same m n v outside is =
    let same = insert-same m.entries n v is in
    let unspent : spent true m.block ≡ m.block = ap (spent true) outside ∙ sym outside in
    ap (λ (es : List (Name × Content)). record { entries = es; room = m.room; limit = m.limit; block = spent true m.block }) same
    ∙ ap (λ o. record { entries = m.entries; room = m.room; limit = m.limit; block = o }) unspent

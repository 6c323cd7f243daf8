-- A change in a block: one more store or free, and what the block keeps (`kept-changed`), as contracts see it (`view-changed`).
use Rattle.std.proofs.Common.{◌≡◌, ℕ, ◌+◌, ◌-◌, Bool, true, false, cond, not, ◌&&◌, ltb, leb, List, [], ◌∷◌, ◌++◌, length, Option, None, Some, refl, sym, ap, subst, ◌∙◌, rules, arith}
use Rattle.std.specs.Prelude.{is_some, unwrap_or}
use Rattle.std.specs.List.{AllByRecursion, IsDistinct, list_any}
use Rattle.std.specs.Option.{option_map}
use Rattle.std.specs.Map.{lookup, keys_of, remove_entry}
use Rattle.std.specs.Cmp.{IsEquivalence}
use Rattle.std.specs.Cmp.Rules.{comparing}
use Rattle.std.proofs.lemmas.Map.Keys.{IsDistinct-push}
use Rattle.indexmap.specs.IndexMap.{insert_entry, spare}
use Rattle.indexmap.proofs.SetLemmas.{keys_insert_entry}
use Rattle.vector_memory.specs.declared.name.Name.{Name}
use Rattle.vector_memory.specs.declared.value.Value.{Value}
use Rattle.vector_memory.specs.declared.block.Block.{Block}
use Rattle.vector_memory.specs.declared.memory.Memory.TheInside.{Inside}
use Rattle.vector_memory.specs.declared.memory.StoreFault.TheVariants.{NoRoom, TooManyNames}
use Rattle.vector_memory.specs.Contents.{Content, content_of, size_of}
use Rattle.vector_memory.specs.Names.{same_name}
use Rattle.vector_memory.specs.States.{Began, NamedValues, State, IsLawful, cells_of, contents, name_limit, put, refusal, spent, value_at, without}
use Rattle.vector_memory.specs.Blocks.{HasRoom, began_of, restored, shown}
use Rattle.vector_memory.specs.Insides.{IsKept, IsUnderWay, refusal_by, state_before, state_of}
use Rattle.vector_memory.proofs.BlockLemmas.{keys_of-restored}
use Rattle.vector_memory.proofs.BlockViews.{is_under_way}
use Rattle.vector_memory.proofs.StateLemmas.{contents-insert_entry, contents-remove_entry, keys_of-contents, length-contents, length-insert_entry}

laws : IsEquivalence same_name
laws = search (comparing, rules)

-- names stay distinct
pub distinct-insert : (es : List (Name × Content)) (n : Name) (v : Content) → IsDistinct same_name (keys_of es) → IsDistinct same_name (keys_of (insert_entry same_name es n v))
distinct-insert es n v distinct = subst (IsDistinct same_name) (sym (keys_insert_entry same_name es n v)) (by (list_any (same_name n) (keys_of es)) refl)
  where
    by : (b : Bool) → list_any (same_name n) (keys_of es) ≡ b → IsDistinct same_name (cond b (keys_of es) (keys_of es ++ n ∷ []))
    by true there = distinct
    by false none = IsDistinct-push laws (keys_of es) n distinct none

pub distinct-remove : (es : List (Name × Content)) (n : Name) → IsDistinct same_name (keys_of es) → IsDistinct same_name (keys_of (remove_entry (same_name n) es))
unfolding IsDistinct
distinct-remove [] n distinct = distinct
distinct-remove (e ∷ es) n distinct =
    elim (same_name n e.0) as (λ b. IsDistinct same_name (keys_of (cond b es (e ∷ remove_entry (same_name n) es)))) [
      | true ↦ distinct.1
      | false ↦ (apart es distinct.0, distinct-remove es n distinct.1)
    ]
  where
    apart : (xs : List (Name × Content)) → AllByRecursion (λ y. same_name e.0 y ≡ false) (keys_of xs) → AllByRecursion (λ y. same_name e.0 y ≡ false) (keys_of (remove_entry (same_name n) xs))
    apart [] all = all
    apart (x ∷ xs) all =
        elim (same_name n x.0) as (λ b. AllByRecursion (λ y. same_name e.0 y ≡ false) (keys_of (cond b xs (x ∷ remove_entry (same_name n) xs)))) [
          | true ↦ all.1
          | false ↦ (all.0, apart xs all.1)
        ]

-- a name that was there is one less
pub length-removed : (es : List (Name × Content)) (n : Name) → is_some (lookup (same_name n) es) ≡ true → length (remove_entry (same_name n) es) + 1 ≡ length es
length-removed [] n there = absurd (let no : false ≡ true = there in cc)
length-removed (e ∷ es) n there = by (same_name n e.0) refl (λ h. length-removed es n h)
  where
    by : (b : Bool) → same_name n e.0 ≡ b → (is_some (lookup (same_name n) es) ≡ true → length (remove_entry (same_name n) es) + 1 ≡ length es) → length (remove_entry (same_name n) (e ∷ es)) + 1 ≡ length (e ∷ es)
    by true was next = rw was (omega arith)
    by false was next = rw was (let rest = next (rw was at there) in omega arith)

-- a refusal hangs on sizes alone
pub refusal-sizes : (m : State) (n : Name) (v : Content) (old : Option ℕ) (size : ℕ) → old ≡ option_map size_of (value_at m n) → size ≡ size_of v → refusal m n v ≡ refusal_by m old size
refusal-sizes m n v old size was is =
    by (value_at m n) ∙ ap (λ (o : Option ℕ). refusal_by m o (size_of v)) (sym was) ∙ ap (refusal_by m old) (sym is)
  where
    by : (o : Option Content) → (cond (ltb m.room ((cells_of m.entries - unwrap_or (option_map size_of o) 0) + size_of v)) (Some NoRoom) (cond (not (is_some o) && leb name_limit (length m.entries)) (Some TooManyNames) None))
        ≡ refusal_by m (option_map size_of o) (size_of v)
    by None = refl
    by (Some x) = refl

-- one name more where there was none
pub counted-put : (names one : ℕ) (new : Bool) (old : Option ℕ) (es : List (Name × Content)) (n : Name) (v : Content) → names ≡ length es → one ≡ cond new 1 0 → is_some old ≡ not new → old ≡ option_map size_of (lookup (same_name n) es)
    → names + one ≡ length (insert_entry same_name es n v)
counted-put names one new old es n v count one_is none was = by (lookup (same_name n) es) was new none one_is (length-insert_entry es n v)
  where
    by : (o : Option Content) → old ≡ option_map size_of o → (new : Bool) → is_some old ≡ not new → one ≡ cond new 1 0 → length (insert_entry same_name es n v) ≡ length es + cond (is_some o) 0 1 → names + one ≡ length (insert_entry same_name es n v)
    by None was true none one_is grows = omega (arith, grows, one_is, count)
    by None was false none one_is grows = absurd (let no : false ≡ true = sym (ap is_some was) ∙ none in cc)
    by (Some x) was true none one_is grows = absurd (let no : true ≡ false = sym (ap is_some was) ∙ none in cc)
    by (Some x) was false none one_is grows = omega (arith, grows, one_is, count)

-- what was held when a block began has the names that are held
pub distinct-held : (held : NamedValues) (b : Block) (room limit : ℕ) → IsLawful (state_before held b room limit) → IsDistinct same_name (keys_of held)
distinct-held held b room limit lawful =
    subst (IsDistinct same_name) (keys_of-contents (restored held b.replaced.entries) ∙ keys_of-restored held b.replaced.entries) lawful.distinct

spent-begun : (before now : NamedValues) (old new : Block) → restored now new.replaced.entries ≡ restored before old.replaced.entries → new.left + 1 ≡ old.left → (b c : Bool) → b ≡ true → c ≡ true
    → began_of c now new ≡ spent true (began_of b before old)
spent-begun before now old new same left true true e f =
    ap (λ (es : NamedValues). Some (record { entries = contents es; left = new.left })) same
    ∙ ap (λ (n : ℕ). Some (record { entries = contents (restored before old.replaced.entries); left = n })) (let less : new.left ≡ old.left - 1 = omega arith in less)
spent-begun before now old new same left true false e f = absurd cc
spent-begun before now old new same left false c e f = absurd cc

-- as contracts see a memory in a block, once it shows other entries
module _ (i j : Inside) (es : NamedValues) where
  pub view-changed : i.block.begun ≡ true → j.block.begun ≡ true → shown j.values.entries j.block ≡ es
      → restored j.values.entries j.block.replaced.entries ≡ restored i.values.entries i.block.replaced.entries → j.block.left + 1 ≡ i.block.left → j.room ≡ i.room → j.limit ≡ i.limit
      → state_of j ≡ record { entries = contents es; room = i.room; limit = i.limit; block = spent true (state_of i).block }
  view-changed was now all before left room limit =
      ap (λ (xs : NamedValues). record { entries = contents xs; room = j.room; limit = j.limit; block = (state_of j).block }) all
      ∙ ap (λ (n : ℕ). record { entries = contents es; room = n; limit = j.limit; block = (state_of j).block }) room
      ∙ ap (λ (n : ℕ). record { entries = contents es; room = i.room; limit = n; block = (state_of j).block }) limit
      ∙ ap (λ (o : Option Began). record { entries = contents es; room = i.room; limit = i.limit; block = o })
      (spent-begun i.values.entries j.values.entries i.block j.block before left i.block.begun j.block.begun was now)

  pub kept-changed : (m : State) → IsUnderWay i.values.entries (spare i.values) i.block i.room i.limit → j.block.begun ≡ true → shown j.values.entries j.block ≡ es
      → restored j.values.entries j.block.replaced.entries ≡ restored i.values.entries i.block.replaced.entries → j.room ≡ i.room → j.limit ≡ i.limit
      → state_of j ≡ m → IsLawful m → j.cells ≡ cells_of (contents es) → j.block.names ≡ length (contents es) → j.block.cells ≡ i.block.cells → HasRoom (spare j.values) j.block → IsKept j
  kept-changed m kept now all before room limit seen lawful counted names cells has_room = record {
    counted = counted ∙ ap (λ (xs : NamedValues). cells_of (contents xs)) (sym all);
    lawful = subst IsLawful (sym seen) lawful;
    block = is_under_way j.block.begun j.values.entries (spare j.values) j.block j.room j.limit now (record {
      names = names ∙ length-contents es ∙ ap (λ (xs : NamedValues). length xs) (sym all);
      cells = cells ∙ kept.cells ∙ ap (λ (xs : NamedValues). cells_of (contents xs)) (sym before);
      lawful = subst IsLawful (ap (λ (xs : NamedValues). record { entries = contents xs; room = i.room; limit = i.limit; block = None }) (sym before)
          ∙ ap (λ (n : ℕ). record { entries = contents (restored j.values.entries j.block.replaced.entries); room = n; limit = i.limit; block = None }) (sym room)
          ∙ ap (λ (n : ℕ). record { entries = contents (restored j.values.entries j.block.replaced.entries); room = j.room; limit = n; block = None }) (sym limit)) kept.lawful;
      has_room = has_room;
    });
  }

-- as contracts see a store in a block, and a free
module _ (i j : Inside) (m : State) (n : Name) (seen : state_of i ≡ m) (was : i.block.begun ≡ true) (now : j.block.begun ≡ true)
    (before : restored j.values.entries j.block.replaced.entries ≡ restored i.values.entries i.block.replaced.entries) (left : j.block.left + 1 ≡ i.block.left) (room : j.room ≡ i.room) (limit : j.limit ≡ i.limit) where
  pub view-put : (v : Value) → shown j.values.entries j.block ≡ insert_entry same_name (shown i.values.entries i.block) n v → state_of j ≡ put m n (content_of v)
  view-put v all =
      let old = shown i.values.entries i.block in
      view-changed i j (insert_entry same_name old n v) was now all before left room limit
      ∙ ap (λ (es : List (Name × Content)). record { entries = es; room = i.room; limit = i.limit; block = spent true (state_of i).block }) (contents-insert_entry old n v)
      ∙ ap (λ (s : State). put s n (content_of v)) seen

  pub view-freed : is_some (value_at m n) ≡ true → shown j.values.entries j.block ≡ remove_entry (same_name n) (shown i.values.entries i.block) → state_of j ≡ without m n
  view-freed found all =
      let old = shown i.values.entries i.block in
      let there : is_some (value_at (state_of i) n) ≡ true = ap (λ (s : State). is_some (value_at s n)) seen ∙ found in
      view-changed i j (remove_entry (same_name n) old) was now all before left room limit
      ∙ ap (λ (es : List (Name × Content)). record { entries = es; room = i.room; limit = i.limit; block = spent true (state_of i).block }) (contents-remove_entry old n)
      ∙ ap (λ (b : Bool). record { entries = remove_entry (same_name n) (contents old); room = i.room; limit = i.limit; block = spent b (state_of i).block }) (sym there)
      ∙ ap (λ (s : State). without s n) seen

-- A block's notes beside the values held. What the lists of two maps, one behind the other, show of a name (`lookup-append-left`
-- and the like); the names that were not freed (`lookup-live`, `insert-live`, `remove-live`); a value in place of another
-- (`put-held`); and that notes put back what was replaced (`restored-noted`, `restored-put`).
use Rattle.std.proofs.Common.{◌≡◌, ℕ, zero, suc, ◌≤◌, Bool, true, false, cond, eqb, List, [], ◌∷◌, ◌++◌, ◌||◌, get_or, slice_get, Option, None, Some, refl, sym, ap, subst, ◌∙◌, rules}
use Rattle.std.specs.Prelude.{is_some, IfSome, Result, Ok, Err, OnOk, IsOk, length}
use Rattle.std.proofs.Common.{arith}
use Rattle.std.specs.List.{AllByRecursion, IsDistinct}
use Rattle.std.specs.Map.{lookup, keys_of, values_of, remove_entry}
use Rattle.std.specs.Cmp.{IsEquivalence}
use Rattle.std.specs.Cmp.Rules.{comparing}
use Rattle.std.proofs.Math.Facts.{eqb_yes}
use Rattle.std.proofs.lemmas.Bool.{eq-eqb, eqb-true, eqb-false}
use Rattle.std.proofs.lemmas.List.{append_assoc, append-nil}
use Rattle.std.proofs.lemmas.Map.Keys.{IsDistinct-head, IsDistinct-tail}
use Rattle.std.proofs.lemmas.Option.{get_or_from_slice_get}
use Rattle.indexmap.specs.IndexMap.{insert_entry, insert_all, set_value_at}
use Rattle.indexmap.proofs.MapLemmas.{Found-position, absent_before, insert_entry-first, some_index}
use Rattle.std.specs.Prelude.{position, IfOk}
use Rattle.std.proofs.lemmas.Cmp.{nat_list_eq_equiv}
use Rattle.vector_memory.specs.declared.name.Name.{Name}
use Rattle.vector_memory.specs.declared.value.Value.{Value}
use Rattle.vector_memory.specs.Names.{same_name}
use Rattle.vector_memory.specs.States.{NamedValues}
use Rattle.vector_memory.specs.Notes.{PlacedValues, is_noted}
use Rattle.vector_memory.specs.Blocks.{is_freed, live, restored}

-- names with one text are one
pub same_text : (a b : List ℕ) → same_name a b ≡ true → a ≡ b
same_text [] [] e = refl
same_text [] (y ∷ ys) e = absurd cc
same_text (x ∷ xs) [] e = absurd cc
same_text (x ∷ xs) (y ∷ ys) e = by (eqb x y) refl (λ h. same_text xs ys h)
  where
    by : (b : Bool) → eqb x y ≡ b → (same_name xs ys ≡ true → xs ≡ ys) → (x ∷ xs) ≡ (y ∷ ys)
    by true was next = let head : x ≡ y = eqb_yes (rw was tt) in let tail = next (rw was at e) in cc
    by false was next = absurd (let no : false ≡ true = rw was at e in cc)

pub same_self : (n : Name) → same_name n n ≡ true
same_self [] = refl
same_self (x ∷ xs) = rw (same_self xs, eq-eqb x x refl) refl

pub none_there : {A : Type 0} (o : Option A) → is_some o ≡ false → o ≡ None
none_there None e = refl
none_there (Some x) e = absurd (let no : true ≡ false = e in cc)

-- two lists, one behind the other
module _ (n : Name) where
  pub lookup-append-left : (xs ys : NamedValues) → is_some (lookup (same_name n) xs) ≡ true → lookup (same_name n) (xs ++ ys) ≡ lookup (same_name n) xs
  lookup-append-left [] ys there = absurd cc
  lookup-append-left (e ∷ es) ys there = by (same_name n e.0) refl (λ h. lookup-append-left es ys h)
    where
      by : (b : Bool) → same_name n e.0 ≡ b → (is_some (lookup (same_name n) es) ≡ true → lookup (same_name n) (es ++ ys) ≡ lookup (same_name n) es) → lookup (same_name n) ((e ∷ es) ++ ys) ≡ lookup (same_name n) (e ∷ es)
      by true was next = rw was refl
      by false was next = rw was (next (rw was at there))

  pub lookup-append-right : (xs ys : NamedValues) → lookup (same_name n) xs ≡ None → lookup (same_name n) (xs ++ ys) ≡ lookup (same_name n) ys
  lookup-append-right [] ys none = refl
  lookup-append-right (e ∷ es) ys none = by (same_name n e.0) refl (λ h. lookup-append-right es ys h)
    where
      by : (b : Bool) → same_name n e.0 ≡ b → (lookup (same_name n) es ≡ None → lookup (same_name n) (es ++ ys) ≡ lookup (same_name n) ys) → lookup (same_name n) ((e ∷ es) ++ ys) ≡ lookup (same_name n) ys
      by true was next = absurd (let no : Some e.1 ≡ None = rw was at none in cc)
      by false was next = rw was (next (rw was at none))

  pub insert-append-left : (v : Value) (xs ys : NamedValues) → is_some (lookup (same_name n) xs) ≡ true → insert_entry same_name (xs ++ ys) n v ≡ insert_entry same_name xs n v ++ ys
  insert-append-left v [] ys there = absurd cc
  insert-append-left v (e ∷ es) ys there = by (same_name n e.0) refl (λ h. insert-append-left v es ys h)
    where
      by : (b : Bool) → same_name n e.0 ≡ b → (is_some (lookup (same_name n) es) ≡ true → insert_entry same_name (es ++ ys) n v ≡ insert_entry same_name es n v ++ ys) → insert_entry same_name ((e ∷ es) ++ ys) n v ≡ insert_entry same_name (e ∷ es) n v ++ ys
      by true was next = rw was refl
      by false was next = rw was (ap (λ (rest : NamedValues). e ∷ rest) (next (rw was at there)))

  pub insert-append-right : (v : Value) (xs ys : NamedValues) → lookup (same_name n) xs ≡ None → insert_entry same_name (xs ++ ys) n v ≡ xs ++ insert_entry same_name ys n v
  insert-append-right v [] ys none = refl
  insert-append-right v (e ∷ es) ys none = by (same_name n e.0) refl (λ h. insert-append-right v es ys h)
    where
      by : (b : Bool) → same_name n e.0 ≡ b → (lookup (same_name n) es ≡ None → insert_entry same_name (es ++ ys) n v ≡ es ++ insert_entry same_name ys n v) → insert_entry same_name ((e ∷ es) ++ ys) n v ≡ (e ∷ es) ++ insert_entry same_name ys n v
      by true was next = absurd (let no : Some e.1 ≡ None = rw was at none in cc)
      by false was next = rw was (ap (λ (rest : NamedValues). e ∷ rest) (next (rw was at none)))

  pub remove-append-left : (xs ys : NamedValues) → is_some (lookup (same_name n) xs) ≡ true → remove_entry (same_name n) (xs ++ ys) ≡ remove_entry (same_name n) xs ++ ys
  remove-append-left [] ys there = absurd cc
  remove-append-left (e ∷ es) ys there = by (same_name n e.0) refl (λ h. remove-append-left es ys h)
    where
      by : (b : Bool) → same_name n e.0 ≡ b → (is_some (lookup (same_name n) es) ≡ true → remove_entry (same_name n) (es ++ ys) ≡ remove_entry (same_name n) es ++ ys) → remove_entry (same_name n) ((e ∷ es) ++ ys) ≡ remove_entry (same_name n) (e ∷ es) ++ ys
      by true was next = rw was refl
      by false was next = rw was (ap (λ (rest : NamedValues). e ∷ rest) (next (rw was at there)))

  pub remove-append-right : (xs ys : NamedValues) → lookup (same_name n) xs ≡ None → remove_entry (same_name n) (xs ++ ys) ≡ xs ++ remove_entry (same_name n) ys
  remove-append-right [] ys none = refl
  remove-append-right (e ∷ es) ys none = by (same_name n e.0) refl (λ h. remove-append-right es ys h)
    where
      by : (b : Bool) → same_name n e.0 ≡ b → (lookup (same_name n) es ≡ None → remove_entry (same_name n) (es ++ ys) ≡ es ++ remove_entry (same_name n) ys) → remove_entry (same_name n) ((e ∷ es) ++ ys) ≡ (e ∷ es) ++ remove_entry (same_name n) ys
      by true was next = absurd (let no : Some e.1 ≡ None = rw was at none in cc)
      by false was next = rw was (ap (λ (rest : NamedValues). e ∷ rest) (next (rw was at none)))

  absent-from : (e : Name) → same_name n e ≡ true → (es : NamedValues) → AllByRecursion (λ y. same_name e y ≡ false) (keys_of es) → lookup (same_name n) es ≡ None
  absent-from e was es all = rw (same_text n e was) (apart es all)
    where
      apart : (es : NamedValues) → AllByRecursion (λ y. same_name e y ≡ false) (keys_of es) → lookup (same_name e) es ≡ None
      apart [] all = refl
      apart (x ∷ xs) all = rw all.0 (apart xs all.1)

  -- in a list of distinct names, behind the first of n there is none
  absent-behind : (e : Name × Value) (es : NamedValues) → IsDistinct same_name (keys_of (e ∷ es)) → same_name n e.0 ≡ true → lookup (same_name n) es ≡ None
  absent-behind e es distinct was = absent-from e.0 was es (IsDistinct-head same_name e.0 (keys_of es) distinct)

pub no_items : {A : Type 0} (xs : List A) → length xs ≡ 0 → xs ≡ []
no_items [] e = refl
no_items (x ∷ xs) e = absurd (omega (arith, e))

-- nothing is freed
pub live-none : (es : NamedValues) → live [] es ≡ es
live-none [] = refl
live-none (e ∷ es) = ap (λ (rest : NamedValues). e ∷ rest) (live-none es)

module _ (freed : List Name) (n : Name) where
  pub lookup-live : (es : NamedValues) → lookup (same_name n) (live freed es) ≡ cond (is_freed freed n) None (lookup (same_name n) es)
  lookup-live [] = nothing (is_freed freed n)
    where
      nothing : (b : Bool) → ◌≡◌ {A = Option Value} None (cond b None None)
      nothing true = refl
      nothing false = refl
  lookup-live (e ∷ es) = by (same_name n e.0) (is_freed freed e.0) refl refl (lookup-live es)
    where
      by : (b f : Bool) → same_name n e.0 ≡ b → is_freed freed e.0 ≡ f → lookup (same_name n) (live freed es) ≡ cond (is_freed freed n) None (lookup (same_name n) es)
          → lookup (same_name n) (live freed (e ∷ es)) ≡ cond (is_freed freed n) None (lookup (same_name n) (e ∷ es))
      by true true was gone rest = let here : is_freed freed n ≡ true = ap (is_freed freed) (same_text n e.0 was) ∙ gone in rw (gone, here) (rw here at rest)
      by true false was gone rest = let here : is_freed freed n ≡ false = ap (is_freed freed) (same_text n e.0 was) ∙ gone in rw (gone, here, was) refl
      by false true was gone rest = rw (gone, was) rest
      by false false was gone rest = rw (gone, was) rest

  -- what a name stands for in what is shown
  module _ (held late : NamedValues) where
    pub shown-freed : is_freed freed n ≡ true → lookup (same_name n) (live freed held ++ late) ≡ lookup (same_name n) late
    shown-freed gone = lookup-append-right n (live freed held) late (lookup-live held ∙ ap (λ b. cond b None (lookup (same_name n) held)) gone)

    pub shown-found : is_some (cond (is_freed freed n) None (lookup (same_name n) held)) ≡ true → lookup (same_name n) (live freed held ++ late) ≡ cond (is_freed freed n) None (lookup (same_name n) held)
    shown-found there = lookup-append-left n (live freed held) late (ap is_some (lookup-live held) ∙ there) ∙ lookup-live held

    pub shown-missing : cond (is_freed freed n) None (lookup (same_name n) held) ≡ None → lookup (same_name n) (live freed held ++ late) ≡ lookup (same_name n) late
    shown-missing none = lookup-append-right n (live freed held) late (lookup-live held ∙ none)

    pub shown-held : (v : Value) → is_freed freed n ≡ false → lookup (same_name n) held ≡ Some v → lookup (same_name n) (live freed held ++ late) ≡ Some v
    shown-held v kept there =
        let at : lookup (same_name n) (live freed held) ≡ Some v = lookup-live held ∙ ap (λ b. cond b None (lookup (same_name n) held)) kept ∙ there in
        lookup-append-left n (live freed held) late (ap is_some at) ∙ at

    pub shown-late : is_freed freed n ≡ false → lookup (same_name n) held ≡ None → lookup (same_name n) (live freed held ++ late) ≡ lookup (same_name n) late
    shown-late kept none = lookup-append-right n (live freed held) late (lookup-live held ∙ ap (λ b. cond b None (lookup (same_name n) held)) kept ∙ none)

  pub insert-live : (v : Value) (es : NamedValues) → is_freed freed n ≡ false → is_some (lookup (same_name n) es) ≡ true → live freed (insert_entry same_name es n v) ≡ insert_entry same_name (live freed es) n v
  insert-live v [] kept there = absurd cc
  insert-live v (e ∷ es) kept there = by (same_name n e.0) (is_freed freed e.0) refl refl (λ h. insert-live v es kept h)
    where
      by : (b f : Bool) → same_name n e.0 ≡ b → is_freed freed e.0 ≡ f → (is_some (lookup (same_name n) es) ≡ true → live freed (insert_entry same_name es n v) ≡ insert_entry same_name (live freed es) n v)
          → live freed (insert_entry same_name (e ∷ es) n v) ≡ insert_entry same_name (live freed (e ∷ es)) n v
      by true true was gone next = absurd (let here : is_freed freed n ≡ true = ap (is_freed freed) (same_text n e.0 was) ∙ gone in cc)
      by true false was gone next = rw (was, gone, was) refl
      by false true was gone next = rw (was, gone) (next (rw was at there))
      by false false was gone next = rw (was, gone, was) (ap (λ (rest : NamedValues). e ∷ rest) (next (rw was at there)))

  -- one more name is freed
  module _ (more : List Name) (grown : (k : Name) → is_freed more k ≡ (is_freed freed k || same_name n k)) where
    same-live : (es : NamedValues) → lookup (same_name n) es ≡ None → live more es ≡ live freed es
    same-live [] none = refl
    same-live (e ∷ es) none = by (same_name n e.0) (is_freed freed e.0) refl refl (λ h. same-live es h)
      where
        by : (b f : Bool) → same_name n e.0 ≡ b → is_freed freed e.0 ≡ f → (lookup (same_name n) es ≡ None → live more es ≡ live freed es) → live more (e ∷ es) ≡ live freed (e ∷ es)
        by true f was gone next = absurd (let no : Some e.1 ≡ None = rw was at none in cc)
        by false true was gone next = rw (grown e.0, gone) (next (rw was at none))
        by false false was gone next = rw (grown e.0, gone, was) (ap (λ (rest : NamedValues). e ∷ rest) (next (rw was at none)))

    pub remove-live : (es : NamedValues) → IsDistinct same_name (keys_of es) → is_freed freed n ≡ false → live more es ≡ remove_entry (same_name n) (live freed es)
    remove-live [] distinct kept = refl
    remove-live (e ∷ es) distinct kept = by (same_name n e.0) (is_freed freed e.0) refl refl (remove-live es (IsDistinct-tail same_name e.0 (keys_of es) distinct) kept)
      where
        by : (b f : Bool) → same_name n e.0 ≡ b → is_freed freed e.0 ≡ f → live more es ≡ remove_entry (same_name n) (live freed es) → live more (e ∷ es) ≡ remove_entry (same_name n) (live freed (e ∷ es))
        by true true was gone rest = absurd (let here : is_freed freed n ≡ true = ap (is_freed freed) (same_text n e.0 was) ∙ gone in cc)
        by true false was gone rest = rw (grown e.0, gone, was) (same-live es (absent-behind n e es distinct was))
        by false true was gone rest = rw (grown e.0, gone) rest
        by false false was gone rest = rw (grown e.0, gone, was) (ap (λ (later : NamedValues). e ∷ later) rest)

-- a value in place of another
pub keys_of-set_value_at : (es : NamedValues) (i : ℕ) (v : Value) → keys_of (set_value_at es i v) ≡ keys_of es
keys_of-set_value_at [] i v = refl
keys_of-set_value_at (e ∷ es) zero v = refl
keys_of-set_value_at (e ∷ es) (suc i) v = ap (λ (later : List Name). e.0 ∷ later) (keys_of-set_value_at es i v)

pub set-past : (es : NamedValues) (i : ℕ) (v : Value) → length es ≤ i → set_value_at es i v ≡ es
set-past [] i v past = refl
set-past (e ∷ es) zero v past = absurd (omega (arith, past))
set-past (e ∷ es) (suc i) v past = ap (λ (later : NamedValues). e ∷ later) (set-past es i v (omega (arith, past)))

set-twice : (es : NamedValues) (i : ℕ) (v w : Value) → set_value_at (set_value_at es i v) i w ≡ set_value_at es i w
set-twice [] i v w = refl
set-twice (e ∷ es) zero v w = refl
set-twice (e ∷ es) (suc i) v w = ap (λ (later : NamedValues). e ∷ later) (set-twice es i v w)

set-back : (es : NamedValues) (i : ℕ) (d : Value) → set_value_at es i (get_or (values_of es) i d) ≡ es
set-back [] i d = refl
set-back (e ∷ es) zero d = refl
set-back (e ∷ es) (suc i) d = ap (λ (later : NamedValues). e ∷ later) (set-back es i d)

set-apart : (es : NamedValues) (i j : ℕ) (v w : Value) → (i ≡ j → ⊥) → set_value_at (set_value_at es i v) j w ≡ set_value_at (set_value_at es j w) i v
set-apart [] i j v w other = refl
set-apart (e ∷ es) zero zero v w other = absurd (other refl)
set-apart (e ∷ es) zero (suc j) v w other = refl
set-apart (e ∷ es) (suc i) zero v w other = refl
set-apart (e ∷ es) (suc i) (suc j) v w other = ap (λ (later : NamedValues). e ∷ later) (set-apart es i j v w (λ same. other (ap suc same)))

-- a name that is found among those held, and not freed
module _ (freed : List Name) (n : Name) (held late : NamedValues) where
  pub is_there : (i : ℕ) → position (same_name n) (keys_of held) ≡ Some i → is_some (lookup (same_name n) held) ≡ true
  is_there i at = sym (some_index (same_name n) held) ∙ ap is_some at

  is_live : is_freed freed n ≡ false → is_some (lookup (same_name n) held) ≡ true → is_some (lookup (same_name n) (live freed held)) ≡ true
  is_live kept there = ap is_some (lookup-live freed n held ∙ ap (λ b. cond b None (lookup (same_name n) held)) kept) ∙ there

  pub put-held : (v : Value) (i : ℕ) → is_freed freed n ≡ false → position (same_name n) (keys_of held) ≡ Some i
      → live freed (set_value_at held i v) ++ late ≡ insert_entry same_name (live freed held ++ late) n v
  put-held v i kept at =
      let there = is_there i at in
      ap (λ (es : NamedValues). live freed es ++ late) (sym (insert_entry-first same_name n v held i (Found-position (same_name n) held i at).first))
      ∙ ap (λ (es : NamedValues). es ++ late) (insert-live freed n v held kept there)
      ∙ sym (insert-append-left n v (live freed held) late (is_live kept there))

  pub take-held : (more : List Name) → ((k : Name) → is_freed more k ≡ (is_freed freed k || same_name n k)) → IsDistinct same_name (keys_of held) → is_freed freed n ≡ false → is_some (lookup (same_name n) held) ≡ true
      → live more held ++ late ≡ remove_entry (same_name n) (live freed held ++ late)
  take-held more grown distinct kept there =
      ap (λ (es : NamedValues). es ++ late) (remove-live freed n more grown held distinct kept)
      ∙ sym (remove-append-left n (live freed held) late (is_live kept there))

  -- or that is not among them
  pub not_live : cond (is_freed freed n) None (position (same_name n) (keys_of held)) ≡ None → lookup (same_name n) (live freed held) ≡ None
  not_live e = lookup-live freed n held ∙ by (is_freed freed n) e
    where
      by : (b : Bool) → cond b None (position (same_name n) (keys_of held)) ≡ None → cond b None (lookup (same_name n) held) ≡ None
      by true e = refl
      by false e = none_there (lookup (same_name n) held) (sym (some_index (same_name n) held) ∙ ap is_some e)

-- the names that were freed, with one more
pub grown-freed : (freed : List Name) (n k : Name) → is_freed (freed ++ n ∷ []) k ≡ (is_freed freed k || same_name n k)
grown-freed [] n k = by (same_name k n) (same_name n k) (nat_list_eq_equiv.symm k n)
  where
    by : (b c : Bool) → b ≡ c → (b || false) ≡ (false || c)
    by true c e = e
    by false c e = e
grown-freed (f ∷ fs) n k = by (same_name k f) (grown-freed fs n k)
  where
    by : (b : Bool) → is_freed (fs ++ n ∷ []) k ≡ (is_freed fs k || same_name n k) → (b || is_freed (fs ++ n ∷ []) k) ≡ ((b || is_freed fs k) || same_name n k)
    by true e = refl
    by false e = e

-- notes put back what was replaced
pub restored-noted : (held : NamedValues) (rs : PlacedValues) (r : ℕ × Value) → restored held (rs ++ r ∷ []) ≡ restored (set_value_at held r.0 r.1) rs
restored-noted held [] r = refl
restored-noted held (q ∷ rs) r = ap (λ (es : NamedValues). set_value_at es q.0 q.1) (restored-noted held rs r)

pub keys_of-restored : (held : NamedValues) (rs : PlacedValues) → keys_of (restored held rs) ≡ keys_of held
keys_of-restored held [] = refl
keys_of-restored held (r ∷ rs) = keys_of-set_value_at (restored held rs) r.0 r.1 ∙ keys_of-restored held rs

-- the first value that is put in place of another is noted
restored-first : (held : NamedValues) (rs : PlacedValues) (i : ℕ) (v before : Value) → slice_get (values_of held) i ≡ Some before
    → restored (set_value_at held i v) (rs ++ (i, before) ∷ []) ≡ restored held rs
restored-first held rs i v before at =
    let same : set_value_at held i before ≡ held = ap (set_value_at held i) (sym (get_or_from_slice_get (values_of held) i before before at)) ∙ set-back held i before in
    restored-noted (set_value_at held i v) rs (i, before) ∙ ap (λ (es : NamedValues). restored es rs) (set-twice held i v before ∙ same)

-- what is noted of an index hides what stands there now
restored-known : (i : ℕ) (v : Value) (held : NamedValues) (rs : PlacedValues) → is_noted rs i ≡ true → restored (set_value_at held i v) rs ≡ restored held rs
restored-known i v held [] there = absurd (let no : false ≡ true = there in cc)
restored-known i v held (r ∷ rs) there = by (eqb r.0 i) refl (λ h. restored-known i v held rs h)
  where
    covered : (w : Value) (qs : PlacedValues) → set_value_at (restored (set_value_at held i v) qs) i w ≡ set_value_at (restored held qs) i w
    covered w [] = set-twice held i v w
    covered w (q ∷ qs) = one (eqb q.0 i) refl (covered w qs)
      where
        one : (b : Bool) → eqb q.0 i ≡ b → set_value_at (restored (set_value_at held i v) qs) i w ≡ set_value_at (restored held qs) i w
            → set_value_at (set_value_at (restored (set_value_at held i v) qs) q.0 q.1) i w ≡ set_value_at (set_value_at (restored held qs) q.0 q.1) i w
        one true was rest =
            let same : q.0 ≡ i = eqb-true q.0 i was in
            ap (λ (k : ℕ). set_value_at (set_value_at (restored (set_value_at held i v) qs) k q.1) i w) same
            ∙ set-twice (restored (set_value_at held i v) qs) i q.1 w ∙ rest ∙ sym (set-twice (restored held qs) i q.1 w)
            ∙ sym (ap (λ (k : ℕ). set_value_at (set_value_at (restored held qs) k q.1) i w) same)
        one false was rest =
            set-apart (restored (set_value_at held i v) qs) q.0 i q.1 w (eqb-false q.0 i was)
            ∙ ap (λ (es : NamedValues). set_value_at es q.0 q.1) rest
            ∙ sym (set-apart (restored held qs) q.0 i q.1 w (eqb-false q.0 i was))

    by : (b : Bool) → eqb r.0 i ≡ b → (is_noted rs i ≡ true → restored (set_value_at held i v) rs ≡ restored held rs) → restored (set_value_at held i v) (r ∷ rs) ≡ restored held (r ∷ rs)
    by true was next =
        let same : r.0 ≡ i = eqb-true r.0 i was in
        ap (λ (k : ℕ). set_value_at (restored (set_value_at held i v) rs) k r.1) same ∙ covered r.1 rs ∙ sym (ap (λ (k : ℕ). set_value_at (restored held rs) k r.1) same)
    by false was next = ap (λ (es : NamedValues). set_value_at es r.0 r.1) (next (rw was at there))

-- what is noted of an index when a value is put in place of another, of which one may be noted already
pub restored-put : (held : NamedValues) (rs : PlacedValues) (i : ℕ) (v before : Value) (back : Option Value) → slice_get (values_of held) i ≡ Some before
    → IfSome back (λ w. (w ≡ before) × (is_noted rs i ≡ true)) → restored (set_value_at held i v) (cond (is_some back) rs (rs ++ (i, before) ∷ [])) ≡ restored held rs
restored-put held rs i v before None at known = restored-first held rs i v before at
restored-put held rs i v before (Some w) at known = restored-known i v held rs known.1

insert-missing : (es : NamedValues) (n : Name) (v : Value) → lookup (same_name n) es ≡ None → insert_entry same_name es n v ≡ es ++ (n, v) ∷ []
insert-missing es n v none = ap (λ (xs : NamedValues). insert_entry same_name xs n v) (sym (append-nil es)) ∙ insert-append-right n v es [] none

pub on_ok : {A E : Type 0} {P : Type 0} (r : Result A E) → OnOk r P → IsOk r → P
on_ok (Ok x) holds ok = holds
on_ok (Err e) holds ok = absurd (let no : false ≡ true = ok in cc)

pub if_ok : {A E : Type 0} {P : Type 0} (r : Result A E) → IfOk r (λ _. P) → IsOk r → P
if_ok (Ok x) holds ok = holds
if_ok (Err e) holds ok = absurd (let no : false ≡ true = ok in cc)

-- a search for a name that was not freed found it, or not
pub found-kept : (b : Bool) (o : Option ℕ) (i : ℕ) → cond b None o ≡ Some i → b ≡ false
found-kept true o i e = absurd cc
found-kept false o i e = refl

pub found-index : (b : Bool) (o : Option ℕ) (i : ℕ) → cond b None o ≡ Some i → o ≡ Some i
found-index true o i e = absurd cc
found-index false o i e = e

-- names that are new go behind in their order
pub insert_all-new : (es xs : NamedValues) → IsDistinct same_name (keys_of (es ++ xs)) → insert_all same_name es xs ≡ es ++ xs
insert_all-new es [] distinct = sym (append-nil es)
insert_all-new es (x ∷ xs) distinct =
    let regrouped : (es ++ x ∷ []) ++ xs ≡ es ++ x ∷ xs = append_assoc es (x ∷ []) xs in
    let absent = absent_before laws es xs x distinct in
    ap (λ (ys : NamedValues). insert_all same_name ys xs) (insert-missing es x.0 x.1 absent)
    ∙ insert_all-new (es ++ x ∷ []) xs (subst (λ (ys : NamedValues). IsDistinct same_name (keys_of ys)) (sym regrouped) distinct) ∙ regrouped
  where
    laws : IsEquivalence same_name
    laws = search (comparing, rules)

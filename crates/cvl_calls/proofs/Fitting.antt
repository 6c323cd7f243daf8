-- What the operands of a lawful memory read is within its limit, `operands_of-fits`, `ItemsFit`, and a result stores no value
-- beyond the limit where each check before it leads to one, `MakesFitting-bind`, `MakesFitting-check`.
use Rattle.std.proofs.Common.{◌≡◌, ℕ, ◌≤◌, Bool, true, false, cond, leb, List, [], ◌∷◌, length, None, Some, Result, Ok, Err, ℤ, pos, negsuc, refl, sym, subst}
use Rattle.std.specs.List.{AllByRecursion}
use Rattle.std.specs.Map.{lookup}
use Rattle.std.proofs.lemmas.Bool.{leb-true}
use Rattle.vector_memory.specs.declared.name.Name.{Name}
use Rattle.vector_memory.specs.Contents.{Content, Ints, Bools, Segs, size_of}
use Rattle.vector_memory.specs.States.{State, FitsLimits, IsLawful, same_name}
use Rattle.cvl_text.specs.declared.fault.Fault.{Fault}
use Rattle.cvl_text.specs.declared.fault.Fault.TheVariants.{TooLong}
use Rattle.cvl_text.specs.declared.word.Kind.{Kind}
use Rattle.cvl_text.specs.declared.word.Kind.TheVariants as kinds
use Rattle.cvl_text.specs.Tasks.{Argument, Vector, Number, Truth, Numbers, Truths}
use Rattle.cvl_calls.specs.Operands.{any_value, ints_in, ints, bools_in, bools, segs_in, segs, items_in, items, over_items, number, count_in, count, ItemType, integers, truths}
use Rattle.cvl_calls.specs.Outcomes.{Operand, Held, NumberGiven, TruthGiven, NumbersGiven, TruthsGiven, Effect, ◌>>=◌, check, operands_of, IsFittingEffect}

pub bind_ok : {A B : Type 0} (r : Result A Fault) (f : A → Result B Fault) (y : B) → (r >>= f) ≡ Ok y → (x : A) × (r ≡ Ok x) × (f x ≡ Ok y)
bind_ok (Ok x) f y e = (x, refl, e)
bind_ok (Err d) f y e = absurd cc

-- as many as are few enough
pub same-few : {m n limit : ℕ} → m ≡ n → n ≤ limit → m ≤ limit
same-few {limit = limit} e few = subst (λ (k : ℕ). k ≤ limit) (sym e) few

pub check_ok : (b : Bool) (f : Fault) (u : Unit {0}) → check b f ≡ Ok u → b ≡ true
check_ok true f u e = refl
check_ok false f u e = absurd cc

ints_in-is : (v : Content) (xs : List ℤ) → ints_in v ≡ Ok xs → v ≡ Ints xs
ints_in-is (Ints ys) xs e = cc
ints_in-is (Bools bs) xs e = absurd cc
ints_in-is (Segs ls) xs e = absurd cc

bools_in-is : (v : Content) (bs : List Bool) → bools_in v ≡ Ok bs → v ≡ Bools bs
bools_in-is (Ints xs) bs e = absurd cc
bools_in-is (Bools ys) bs e = cc
bools_in-is (Segs ls) bs e = absurd cc

segs_in-is : (v : Content) (ls : List ℕ) → segs_in v ≡ Ok ls → v ≡ Segs ls
segs_in-is (Ints xs) ls e = absurd cc
segs_in-is (Bools bs) ls e = absurd cc
segs_in-is (Segs ks) ls e = cc

items_in-is : (kind : Kind) (v w : Content) → items_in kind v ≡ Ok w → v ≡ w
items_in-is kinds.Z (Ints xs) w e = cc
items_in-is kinds.Z (Bools bs) w e = absurd cc
items_in-is kinds.Z (Segs ls) w e = absurd cc
items_in-is kinds.B (Ints xs) w e = absurd cc
items_in-is kinds.B (Bools bs) w e = cc
items_in-is kinds.B (Segs ls) w e = absurd cc

module _ (limit : ℕ) where
  -- an operand that is a value is one that a memory of the limit may hold
  abbrev pub IsFit : Operand → Type 0
  IsFit (Held (Some v)) = FitsLimits limit v
  IsFit other = Unit {0}

  abbrev pub IsFittingResult : Result Effect Fault → Type 0
  IsFittingResult (Ok effect) = IsFittingEffect limit effect
  IsFittingResult (Err f) = Unit {0}

  -- a result that stores no value beyond the limit
  pub record MakesFitting (effect : Result Effect Fault) : Type 0 where
    pub fits : IsFittingResult effect

  -- a step that did not fail, and what comes after it
  pub MakesFitting-bind : {A : Type 0} (r : Result A Fault) (f : A → Result Effect Fault) → ((x : A) → r ≡ Ok x → MakesFitting (f x)) → MakesFitting (r >>= f)
  MakesFitting-bind (Ok x) f h = h x refl
  MakesFitting-bind (Err e) f h = record { fits = tt }

  pub MakesFitting-check : (b : Bool) (f : Fault) (next : Unit {0} → Result Effect Fault) → (b ≡ true → MakesFitting (next tt)) → MakesFitting (check b f >>= next)
  MakesFitting-check true f next h = h refl
  MakesFitting-check false f next h = record { fits = tt }

  pub any_value-fits : (o : Operand) (v : Content) → IsFit o → any_value o ≡ Ok v → FitsLimits limit v
  any_value-fits (Held None) v h e = absurd cc
  any_value-fits (Held (Some w)) v h e = let same : w ≡ v = cc in subst (FitsLimits limit) same h
  any_value-fits (NumberGiven x) v h e = absurd cc
  any_value-fits (TruthGiven b) v h e = absurd cc
  any_value-fits (NumbersGiven xs) v h e = absurd cc
  any_value-fits (TruthsGiven bs) v h e = absurd cc

  module _ (o : Operand) (fit : IsFit o) where
    pub ints-short : (xs : List ℤ) → ints o ≡ Ok xs → length xs ≤ limit
    ints-short xs e =
        let v = bind_ok (any_value o) ints_in xs e in
        subst (FitsLimits limit) (ints_in-is v.0 xs v.2) (any_value-fits o v.0 fit v.1)

    bools-short : (bs : List Bool) → bools o ≡ Ok bs → length bs ≤ limit
    bools-short bs e =
        let v = bind_ok (any_value o) bools_in bs e in
        subst (FitsLimits limit) (bools_in-is v.0 bs v.2) (any_value-fits o v.0 fit v.1)

    pub segs-within : (ls : List ℕ) → segs o ≡ Ok ls → FitsLimits limit (Segs ls)
    segs-within ls e =
        let v = bind_ok (any_value o) segs_in ls e in
        subst (FitsLimits limit) (segs_in-is v.0 ls v.2) (any_value-fits o v.0 fit v.1)

    pub items-fit : (kind : Kind) (v : Content) → items kind o ≡ Ok v → FitsLimits limit v
    items-fit kind v e =
        let w = bind_ok (any_value o) (items_in kind) v e in
        subst (FitsLimits limit) (items_in-is kind w.0 v w.2) (any_value-fits o w.0 fit w.1)

  -- what is read of a type of items is short, and so many of them fit
  pub record ItemsFit {X : Type 0} (type : ItemType X) : Type 0 where
    pub short : (o : Operand) (xs : List X) → IsFit o → type.read o ≡ Ok xs → length xs ≤ limit
    pub fit : (xs : List X) → length xs ≤ limit → FitsLimits limit (type.vector xs)

  pub integers-fit : ItemsFit integers
  integers-fit = record { short = λ o xs fit was. ints-short o fit xs was; fit = λ xs few. few }

  pub truths-fit : ItemsFit truths
  truths-fit = record { short = λ o xs fit was. bools-short o fit xs was; fit = λ xs few. few }

  -- a vector is made of as many items as a value may have
  pub over_items-fits : (f : (X : Type 0) → List X → List X) (v : Content) → FitsLimits limit v → ((X : Type 0) (xs : List X) → length xs ≡ size_of v → length (f X xs) ≤ limit) → FitsLimits limit (over_items f v)
  over_items-fits f (Ints xs) fit few = few ℤ xs refl
  over_items-fits f (Bools bs) fit few = few Bool bs refl
  over_items-fits f (Segs ls) fit few = fit

  pub size_few : (w : Content) → FitsLimits limit w → size_of w ≤ limit
  size_few (Ints xs) h = h
  size_few (Bools bs) h = h
  size_few (Segs ls) h = h.0

  pub size-fits : (kind : Kind) (o : Operand) (v : Content) → IsFit o → items kind o ≡ Ok v → size_of v ≤ limit
  size-fits kind o v fit e = size_few v (items-fit o fit kind v e)

  count_in-few : (x : ℤ) (n : ℕ) → count_in limit x ≡ Ok n → n ≤ limit
  count_in-few (negsuc k) n e = absurd cc
  count_in-few (pos k) n e =
      let fits = bind_ok (check (leb k limit) TooLong) _ n e in
      let same : k ≡ n = cc in
      subst (λ (m : ℕ). m ≤ limit) same (leb-true _ _ (check_ok _ TooLong fits.0 fits.1))

  pub count-few : (o : Operand) (n : ℕ) → count limit o ≡ Ok n → n ≤ limit
  count-few o n e = let x = bind_ok (number o) (count_in limit) n e in count_in-few x.0 n x.2

  lookup-fits : (es : List (Name × Content)) (n : Name) → AllByRecursion (λ e. FitsLimits limit e.1) es → IsFit (Held (lookup (same_name n) es))
  lookup-fits [] n h = tt
  lookup-fits (e ∷ es) n h =
      elim (same_name n e.0) as (λ b. IsFit (Held (cond b (Some e.1) (lookup (same_name n) es)))) [ true ↦ h.0 | false ↦ lookup-fits es n h.1 ]

pub operands_of-fits : (m : State) (arguments : List Argument) → IsLawful m → AllByRecursion (IsFit m.limit) (operands_of m arguments)
operands_of-fits m [] lawful = tt
operands_of-fits m (Vector n ∷ rest) lawful = (lookup-fits m.limit m.entries n lawful.fit, operands_of-fits m rest lawful)
operands_of-fits m (Number x ∷ rest) lawful = (tt, operands_of-fits m rest lawful)
operands_of-fits m (Truth b ∷ rest) lawful = (tt, operands_of-fits m rest lawful)
operands_of-fits m (Numbers xs ∷ rest) lawful = (tt, operands_of-fits m rest lawful)
operands_of-fits m (Truths bs ∷ rest) lawful = (tt, operands_of-fits m rest lawful)

-- A result that is written over an operand: the vectors that are taken out of the memory are those that the call reads (`same_ints`,
-- `other_stays`), and putting the result back is the call's step (`applied_over`).
use Rattle.std.proofs.Common.{◌≡◌, ℤ, List, [], length, map, true, false, Option, Some, None, Result, Ok, Err, refl, sym, ap, ◌∙◌, ℕ, ◌≤◌, arith}
use Rattle.std.proofs.lemmas.Bool.{eq-eqb}
use Rattle.std.proofs.lemmas.List.{length-map}
use Rattle.item_operations.specs.declared.operation.Z2.{Z2}
use Rattle.item_operations.specs.IntegerOps.{alter_z, apply_z}
use Rattle.item_operations.specs.IntegerScans.{combine_z, unit_z}
use Rattle.scan_kernels.specs.Segmented.{scanned}
use Rattle.scan_kernels.proofs.Scanned.{length-scanned}
use Rattle.scan_kernels.specs.Elementwise.{item_by_item}
use Rattle.scan_kernels.proofs.Placed.{paired_long}
use Rattle.vector_memory.specs.declared.name.Name.{Name}
use Rattle.vector_memory.specs.Contents.{Content, Ints}
use Rattle.vector_memory.specs.Names.{same_name}
use Rattle.vector_memory.specs.States.{State, spent, value_at, put, refusal}
use Rattle.vector_memory.proofs.Putting.{fits_back, lookup-inserted, put-put, value_at-put}
use Rattle.vector_memory.proofs.StateLemmas.{value_at-fits}
use Rattle.cvl_text.specs.Answers.{Done}
use Rattle.cvl_text.specs.declared.fault.Fault.{Fault}
use Rattle.cvl_calls.specs.Conditions.{seconds}
use Rattle.cvl_calls.specs.Operands.{integers, ints}
use Rattle.cvl_calls.specs.Outcomes.{Effect, Operand, Held, Stores, ◌>>=◌, viewed}
use Rattle.cvl_calls.specs.Over.{CanApply, WasTaken, made_by, work_by}
use Rattle.cvl_calls.specs.declared.over.one.Change.{Change}
use Rattle.cvl_calls.specs.declared.over.one.Change.TheVariants as changes
use Rattle.cvl_calls.specs.Steps.{followed, refused}
use Rattle.cvl_calls.specs.Work.{map_one, map_two, scan}

abbrev ints_of : Option Content → List ℤ
ints_of (Some (Ints xs)) = xs
ints_of other = []

-- a name stands for one vector
pub same_ints : (o : Option Content) (xs ys : List ℤ) → o ≡ Some (Ints xs) → o ≡ Some (Ints ys) → xs ≡ ys
same_ints o xs ys a b = ap ints_of (sym a ∙ b)

-- what is made of two vectors of one length is as long as the second
pub as_long : (op : ℤ → ℤ → ℤ) (xs ys : List ℤ) → length xs ≡ length ys → length (item_by_item op xs ys) ≡ length ys
as_long op xs ys same = paired_long (λ (p : ℤ × ℤ). op p.0 p.1) xs ys same ∙ same

-- what is made of one vector is as long
pub as_long_as_one : (change : Change) (xs : List ℤ) → length (made_by change xs) ≡ length xs
as_long_as_one (changes.Alter op) xs = length-map xs (alter_z op)
as_long_as_one (changes.Scan op) xs = length-scanned (combine_z op) (unit_z op) xs

-- the work of a call on one vector, on integers
pub work_by-ints : (change : Change) (xs : List ℤ) → work_by change (Held (Some (Ints xs))) ≡ Ok (Stores (Ints (made_by change xs)))
unfolding map_one scan
work_by-ints (changes.Alter op) xs = refl
work_by-ints (changes.Scan op) xs = refl

-- what was read, seen by view, and then an effect of it
viewed-then : {X : Type 0} (view : X → List ℤ) (effect : List ℤ → Effect) (r : Result X Fault) → viewed (λ x. effect (view x)) r ≡ (viewed view r >>= (λ xs. Ok (effect xs)))
viewed-then view effect (Ok x) = refl
viewed-then view effect (Err f) = refl

-- the work of a call on one vector, on what its operand reads
pub work_by-read : {X : Type 0} (view : X → List ℤ) (change : Change) (r : Result X Fault) (a : Operand) → viewed view r ≡ ints a → viewed (λ x. Stores (Ints (made_by change (view x)))) r ≡ work_by change a
unfolding map_one scan
work_by-read view (changes.Alter op) r a e =
    viewed-then view (λ xs. Stores (Ints (map (alter_z op) xs))) r ∙ ap (λ (read : Result (List ℤ) Fault). read >>= (λ xs. Ok (Stores (Ints (map (alter_z op) xs))))) e
work_by-read view (changes.Scan op) r a e =
    viewed-then view (λ xs. Stores (Ints (scanned (combine_z op) (unit_z op) xs))) r ∙ ap (λ (read : Result (List ℤ) Fault). read >>= (λ xs. Ok (Stores (Ints (scanned (combine_z op) (unit_z op) xs))))) e

-- another name stands for what it stood for
pub other_stays : (m held : State) (n k : Name) (between : Content) (o : Option Content) → same_name n k ≡ false → held ≡ put m n between → value_at m k ≡ o → value_at held k ≡ o
other_stays m held n k between o apart was is = ap (λ (s : State). value_at s k) was ∙ lookup-inserted m.entries n k between apart ∙ is

worked : (op : Z2) (xs ys : List ℤ) → length xs ≡ length ys → seconds op ys ≡ Ok tt
    → map_two integers integers (seconds op) (apply_z op) (Held (Some (Ints xs))) (Held (Some (Ints ys))) ≡ Ok (Stores (Ints (item_by_item (apply_z op) xs ys)))
unfolding map_two
worked op xs ys same taken = rw (eq-eqb (length xs) (length ys) same, taken) refl

-- what an operation on the integers of two names makes
pub applies : (m : State) (op : Z2) (a b : Name) (can : CanApply m op a b)
    → map_two integers integers (seconds op) (apply_z op) (Held (value_at m a)) (Held (value_at m b)) ≡ Ok (Stores (Ints (item_by_item (apply_z op) can.left can.right)))
applies m op a b can = rw (can.left_is, can.right_is) (worked op can.left can.right can.same can.taken)

-- The result of a call outside a block stands at its target, also where the target held something else between.
pub applied_over : (m held after : State) (to : Name) (between v w : Content) → m.block ≡ None → refusal m to v ≡ None → held ≡ put m to between → after ≡ put held to w → w ≡ v
    → followed m (Some to) (Ok (Stores v)) ≡ record { memory = after; answer = Done }
applied_over m held after to between v w outside accepted was is same =
    let written : after ≡ put m to v = is ∙ ap (λ (s : State). put s to w) was ∙ put-put m to between w outside ∙ ap (put m to) same in
    ap (λ why. refused m why (put m to v)) accepted ∙ ap (λ (s : State). record { memory = s; answer = Done }) (sym written)

-- What was taken out may be put back, or as many integers: they keep the limit, their name is there, and the store is not refused.
module _ (held : State) (to : Name) (count : ℕ) (taken : WasTaken held to count) where
  pub taken_fits : count ≤ held.limit
  taken_fits =
      let limit : held.limit ≡ taken.before.limit = ap (λ (s : State). s.limit) taken.left in
      let few : length taken.taken ≤ taken.before.limit = rw taken.there at (value_at-fits taken.before to taken.lawful) in
      omega (arith, taken.enough)

  pub taken_outside : held.block ≡ None
  taken_outside = ap (λ (s : State). s.block) taken.left ∙ ap (spent true) taken.outside

  pub taken_there : value_at held to ≡ None → ⊥
  taken_there none =
      let now : value_at held to ≡ Some (Ints []) = ap (λ (s : State). value_at s to) taken.left ∙ value_at-put taken.before to (Ints []) in
      let same : Some (Ints []) ≡ None = sym now ∙ none in cc

pub taken_accepted : (held : State) (to : Name) (xs : List ℤ) → WasTaken held to (length xs) → refusal held to (Ints xs) ≡ None
taken_accepted held to xs taken =
    ap (λ (s : State). refusal s to (Ints xs)) taken.left
    ∙ fits_back taken.before to (Ints taken.taken) (Ints []) (Ints xs) taken.lawful taken.there refl taken.enough

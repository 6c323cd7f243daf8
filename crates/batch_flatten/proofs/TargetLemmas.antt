-- The chains of buckets: of the targets that are one name none is passed over (`found-last`). A table grows by a call that it passes
-- over (`table-passed`), or that it puts into its bucket (`table-put`). What the later calls find is a clash (`clash-found`).
use Rattle.std.proofs.Common.{◌≡◌, ◌≢◌, ◌==◌, ℕ, zero, suc, ◌+◌, ◌<◌, ◌≤◌, Bool, true, false, cond, ◌||◌, List, [], ◌∷◌, ◌++◌, length, map, Option, Some, None, refl, sym, ap, ◌∙◌, subst, arith, add-one, ne_eqb, eq-eqb, eqb-true, set, get_or, replicate}
use Rattle.std.specs.List.{list_any}
use Rattle.std.proofs.lemmas.Grind.{get_or-set_at}
use Rattle.std.proofs.lemmas.List.{get_or-map, get_or-set_other}
use Rattle.std.proofs.lemmas.List.Folds.{list_any_at}
use mathlib.Core.Logic.{dite}
use native.Mathlib.Decide.{ℕ_discrete}
use Rattle.vector_memory.specs.Names.{bucket_of, same_name}
use Rattle.vector_memory.specs.declared.name.Name.{Name}
use Rattle.cvl_text.specs.declared.call.Call.{Call}
use Rattle.cvl_text.specs.Tasks.{Task, reads, target, task_of}
use Rattle.batch_flatten.specs.declared.targets.Targets.{Targets}
use Rattle.batch_flatten.specs.Waves.{clashes, is_among, jobs_clash}
use Rattle.batch_flatten.specs.Targets.{IsTable, is_found, is_target, last_in, lies_in, target_at, targets_of}
use Rattle.batch_flatten.proofs.BlockLemmas.{any-map, any-push, or_assoc, or_false, first_true, second_true, not_true, one_name, get_or-filled}

-- ---- a chain

-- a target in another bucket is another name
pub other_target : (n : Name) (to : Option Name) → lies_in (bucket_of n) to ≡ false → is_target n to ≡ false
other_target n None apart = refl
other_target n (Some to) apart = not_true (same_name to n) (λ e. let both : bucket_of to == bucket_of n ≡ true = eq-eqb (bucket_of to) (bucket_of n) (ap bucket_of (one_name to n e)) in absurd cc)

pub found-last : (at : ℕ → Option Name) (n : Name) (i : ℕ) → is_found at n i ≡ is_found at n (last_in at (bucket_of n) i)
found-last at n zero = refl
found-last at n (suc i) = by (lies_in (bucket_of n) (at i)) refl (found-last at n i)
  where
    by : (b : Bool) → lies_in (bucket_of n) (at i) ≡ b → is_found at n i ≡ is_found at n (last_in at (bucket_of n) i)
        → (is_found at n i || is_target n (at i)) ≡ is_found at n (cond b (suc i) (last_in at (bucket_of n) i))
    by true lies rest = refl
    by false lies rest = ap (λ x. is_found at n i || x) (other_target n (at i) lies) ∙ or_false (is_found at n i) ∙ rest

pub last_in-le : (at : ℕ → Option Name) (b i : ℕ) → last_in at b i ≤ i
last_in-le at b zero = omega arith
last_in-le at b (suc i) = by (lies_in b (at i)) (last_in-le at b i)
  where
    by : (t : Bool) → last_in at b i ≤ i → cond t (suc i) (last_in at b i) ≤ suc i
    by true le = omega arith
    by false le = omega arith

pub last_in-lies : (at : ℕ → Option Name) (b i j : ℕ) → last_in at b i ≡ suc j → lies_in b (at j) ≡ true
last_in-lies at b zero j is = absurd (omega arith)
last_in-lies at b (suc i) j is = by (lies_in b (at i)) refl (last_in-lies at b i j) is
  where
    by : (t : Bool) → lies_in b (at i) ≡ t → (last_in at b i ≡ suc j → lies_in b (at j) ≡ true) → cond t (suc i) (last_in at b i) ≡ suc j → lies_in b (at j) ≡ true
    by true lies earlier here = let same : i ≡ j = omega arith in subst (λ (k : ℕ). lies_in b (at k) ≡ true) same lies
    by false lies earlier here = earlier here

pub found-at : (at : ℕ → Option Name) (n : Name) (i j : ℕ) → j < i → is_target n (at j) ≡ true → is_found at n i ≡ true
found-at at n zero j lt is = absurd (omega arith)
found-at at n (suc i) j lt is = dite (ℕ_discrete j i)
    (λ here. second_true (is_found at n i) (is_target n (at i)) (subst (λ (k : ℕ). is_target n (at k) ≡ true) here is))
    (λ other. first_true (is_found at n i) (is_target n (at i)) (found-at at n i j (omega arith) is))

-- what the table keeps at a place is not the name, where the target there is not
pub kept-other : (n : Name) (mine its : Option Name) → ((m : Name) → mine ≡ Some m → its ≡ Some m) → is_target n its ≡ false → is_target n mine ≡ false
kept-other n None its same other = refl
kept-other n (Some m) its same other = ap (is_target n) (sym (same m refl)) ∙ other

same_found : (f g : ℕ → Option Name) (n : Name) (i : ℕ) → ((p : ℕ) → p < i → f p ≡ g p) → is_found f n i ≡ is_found g n i
same_found f g n zero same = refl
same_found f g n (suc i) same =
    ap (λ x. x || is_target n (f i)) (same_found f g n i (λ p lt. same p (omega arith)))
    ∙ ap (λ to. is_found g n i || is_target n to) (same i (omega arith))

same_last : (f g : ℕ → Option Name) (b i : ℕ) → ((p : ℕ) → p < i → f p ≡ g p) → last_in f b i ≡ last_in g b i
same_last f g b zero same = refl
same_last f g b (suc i) same =
    ap (λ to. cond (lies_in b to) (suc i) (last_in f b i)) (same i (omega arith))
    ∙ ap (λ k. cond (lies_in b (g i)) (suc i) k) (same_last f g b i (λ p lt. same p (omega arith)))

-- ---- a walk down a chain

-- The next is the last of the name's bucket, or one before it, and the name is found from there as it is found from the last on.
pub record IsWalk (table : Targets) (at : ℕ → Option Name) (count : ℕ) (n : Name) (next : ℕ) : Type 0 where
  pub is : IsTable table at count
  pub within : next ≤ count
  pub head : (j : ℕ) → next ≡ suc j → lies_in (bucket_of n) (is.kept j) ≡ true
  pub left : is_found is.kept n next ≡ is_found is.kept n count

pub walk-begin : (table : Targets) (at : ℕ → Option Name) (count : ℕ) (n : Name) (next : ℕ) → IsTable table at count → bucket_of n < 256 → next ≡ get_or table.last (bucket_of n) 0 → IsWalk table at count n next
walk-begin table at count n next is low from =
    let here : next ≡ last_in is.kept (bucket_of n) count = from ∙ is.last (bucket_of n) low in
    record {
      is = is;
      within = let le = last_in-le is.kept (bucket_of n) count in omega arith;
      head = λ j e. last_in-lies is.kept (bucket_of n) count j (sym here ∙ e);
      left = ap (λ (k : ℕ). is_found is.kept n k) here ∙ sym (found-last is.kept n count);
    }

before-is : (table : Targets) (at : ℕ → Option Name) (count : ℕ) (n : Name) (next j : ℕ) → (walk : IsWalk table at count n next) → next ≡ suc j → get_or table.before j 0 ≡ last_in walk.is.kept (bucket_of n) j
before-is table at count n next j walk here = let within = walk.within in walk.is.before j (bucket_of n) (omega arith) (walk.head j here)

pub walk-less : (table : Targets) (at : ℕ → Option Name) (count : ℕ) (n : Name) (next j : ℕ) → IsWalk table at count n next → next ≡ suc j → get_or table.before j 0 ≤ j
walk-less table at count n next j walk here = let is = before-is table at count n next j walk here in let le = last_in-le walk.is.kept (bucket_of n) j in omega arith

pub walk-on : (table : Targets) (at : ℕ → Option Name) (count : ℕ) (n : Name) (next j : ℕ) → IsWalk table at count n next → next ≡ suc j → is_target n (at j) ≡ false → IsWalk table at count n (get_or table.before j 0)
walk-on table at count n next j walk here other =
    let is : get_or table.before j 0 ≡ last_in walk.is.kept (bucket_of n) j = before-is table at count n next j walk here in
    let kept : ℕ → Option Name = walk.is.kept in
    let passed : is_target n (kept j) ≡ false = kept-other n (kept j) (at j) (λ m e. walk.is.its j m e) other in
    let within = walk.within in
    record {
      is = walk.is;
      within = let le = last_in-le kept (bucket_of n) j in omega arith;
      head = λ k e. last_in-lies kept (bucket_of n) j k (sym is ∙ e);
      left = ap (λ (k : ℕ). is_found kept n k) is ∙ sym (found-last kept n j)
          ∙ sym (ap (λ b. is_found kept n j || b) passed ∙ or_false (is_found kept n j))
          ∙ ap (λ (k : ℕ). is_found kept n k) (sym here) ∙ walk.left;
    }

pub walk-hit : (table : Targets) (at : ℕ → Option Name) (count : ℕ) (n : Name) (next j : ℕ) → IsWalk table at count n next → next ≡ suc j → is_target n (at j) ≡ true → is_found at n count ≡ true
walk-hit table at count n next j walk here hit = let within = walk.within in found-at at n count j (omega arith) hit

pub walk-end : (table : Targets) (at : ℕ → Option Name) (count : ℕ) (n : Name) (next : ℕ) → IsWalk table at count n next → next ≡ 0 → is_found at n count ≡ false
walk-end table at count n next walk none = sym (walk.is.found n) ∙ sym walk.left ∙ ap (λ (k : ℕ). is_found walk.is.kept n k) none

-- ---- one more call

abbrev grown : (ℕ → Option Name) → ℕ → Option Name → ℕ → Option Name
grown kept count to p = cond (p == count) to (kept p)

grown-here : (kept : ℕ → Option Name) (count : ℕ) (to : Option Name) → grown kept count to count ≡ to
grown-here kept count to = ap (λ b. cond b to (kept count)) (eq-eqb count count refl)

grown-other : (kept : ℕ → Option Name) (count : ℕ) (to : Option Name) (p : ℕ) → p ≢ count → grown kept count to p ≡ kept p
grown-other kept count to p other = ap (λ b. cond b to (kept p)) (ne_eqb p count other)

grown-found : (kept : ℕ → Option Name) (count : ℕ) (to : Option Name) (n : Name) → is_found (grown kept count to) n (suc count) ≡ (is_found kept n count || is_target n to)
grown-found kept count to n =
    ap (λ x. x || is_target n (grown kept count to count)) (same_found (grown kept count to) kept n count (λ p lt. grown-other kept count to p (λ e. absurd (omega arith))))
    ∙ ap (λ o. is_found kept n count || is_target n o) (grown-here kept count to)

grown-last : (kept : ℕ → Option Name) (count : ℕ) (to : Option Name) (b i : ℕ) → i ≤ count → last_in (grown kept count to) b i ≡ last_in kept b i
grown-last kept count to b i le = same_last (grown kept count to) kept b i (λ p lt. grown-other kept count to p (λ e. absurd (omega arith)))

grown-last_more : (kept : ℕ → Option Name) (count : ℕ) (to : Option Name) (b : ℕ) → last_in (grown kept count to) b (suc count) ≡ cond (lies_in b to) (suc count) (last_in kept b count)
grown-last_more kept count to b =
    ap (λ o. cond (lies_in b o) (suc count) (last_in (grown kept count to) b count)) (grown-here kept count to)
    ∙ ap (λ k. cond (lies_in b to) (suc count) k) (grown-last kept count to b count (omega arith))

absorbed : (a b : Bool) → (b ≡ true → a ≡ true) → (a || false) ≡ (a || b)
absorbed true b there = refl
absorbed false true there = absurd (let e = there refl in cc)
absorbed false false there = refl

passed_by : (table : Targets) (at : ℕ → Option Name) (count : ℕ) → IsTable table at count → ((n : Name) → is_target n (at count) ≡ true → is_found at n count ≡ true) → IsTable table at (suc count)
passed_by table at count is there =
    let kept : ℕ → Option Name = grown is.kept count None in
    record {
      kept = kept;
      its = λ p n e. dite (ℕ_discrete p count)
          (λ here. let no : None ≡ Some n = sym (ap (λ (k : ℕ). grown is.kept count None k) here ∙ grown-here is.kept count None) ∙ e in absurd cc)
          (λ other. is.its p n (sym (grown-other is.kept count None p other) ∙ e));
      found = λ n. grown-found is.kept count None n ∙ ap (λ x. x || false) (is.found n) ∙ absorbed (is_found at n count) (is_target n (at count)) (there n);
      last = λ b low. is.last b low ∙ sym (grown-last_more is.kept count None b);
      before = λ p b lt lies. dite (ℕ_discrete p count)
          (λ here. let no : false ≡ true = sym (ap (λ (k : ℕ). lies_in b (grown is.kept count None k)) here ∙ ap (lies_in b) (grown-here is.kept count None)) ∙ lies in absurd cc)
          (λ other. is.before p b (omega arith) (sym (ap (lies_in b) (grown-other is.kept count None p other)) ∙ lies) ∙ sym (grown-last is.kept count None b p (omega arith)));
    }

-- a call with no target, or with one that is found already
pub table-passed : (table : Targets) (at : ℕ → Option Name) (count : ℕ) → IsTable table at count → ((n : Name) → is_target n (at count) ≡ true → is_found at n count ≡ true) → IsTable table at (count + 1)
table-passed table at count is there = subst (λ (k : ℕ). IsTable table at k) (sym (add-one count)) (passed_by table at count is there)

pub found-same : (at : ℕ → Option Name) (to n : Name) (count : ℕ) → is_found at to count ≡ true → same_name to n ≡ true → is_found at n count ≡ true
found-same at to n count found same = ap (λ m. is_found at m count) (sym (one_name to n same)) ∙ found

put_by : (old new : Targets) (at : ℕ → Option Name) (count : ℕ) (to : Name) → at count ≡ Some to → count < length old.before → bucket_of to < length old.last
    → new.last ≡ set old.last (bucket_of to) (suc count) → new.before ≡ set old.before count (get_or old.last (bucket_of to) 0)
    → IsTable old at count → bucket_of to < 256 → IsTable new at (suc count)
put_by old new at count to target_is few low last_is before_is is small =
    let c : ℕ = bucket_of to in
    let kept : ℕ → Option Name = grown is.kept count (Some to) in
    record {
      kept = kept;
      its = λ p n e. dite (ℕ_discrete p count)
          (λ here. ap at here ∙ target_is ∙ sym (ap (λ (k : ℕ). grown is.kept count (Some to) k) here ∙ grown-here is.kept count (Some to)) ∙ e)
          (λ other. is.its p n (sym (grown-other is.kept count (Some to) p other) ∙ e));
      found = λ n. grown-found is.kept count (Some to) n ∙ ap (λ x. x || same_name to n) (is.found n) ∙ ap (λ o. is_found at n count || is_target n o) (sym target_is);
      last = λ b fits. dite (ℕ_discrete b c)
          (λ here. ap (λ (l : List ℕ). get_or l b 0) last_is ∙ get_or-set_at old.last c b (suc count) 0 here low
          ∙ sym (grown-last_more is.kept count (Some to) b ∙ ap (λ x. cond x (suc count) (last_in is.kept b count)) (eq-eqb c b (sym here))))
          (λ other. ap (λ (l : List ℕ). get_or l b 0) last_is ∙ get_or-set_other old.last c b (suc count) 0 other ∙ is.last b fits
          ∙ sym (grown-last_more is.kept count (Some to) b ∙ ap (λ x. cond x (suc count) (last_in is.kept b count)) (ne_eqb c b (λ e. other (sym e)))));
      before = λ p b lt lies. dite (ℕ_discrete p count)
          (λ here. let in_b : (c == b) ≡ true = sym (ap (λ (k : ℕ). lies_in b (grown is.kept count (Some to) k)) here ∙ ap (lies_in b) (grown-here is.kept count (Some to))) ∙ lies in
          let same : c ≡ b = eqb-true c b in_b in
          ap (λ (l : List ℕ). get_or l p 0) before_is ∙ get_or-set_at old.before count p (get_or old.last c 0) 0 here few ∙ is.last c small
          ∙ ap (λ (k : ℕ). last_in is.kept k count) same ∙ ap (λ (k : ℕ). last_in is.kept b k) (sym here)
          ∙ sym (grown-last is.kept count (Some to) b p (omega arith)))
          (λ other. ap (λ (l : List ℕ). get_or l p 0) before_is ∙ get_or-set_other old.before count p (get_or old.last c 0) 0 other
          ∙ is.before p b (omega arith) (sym (ap (lies_in b) (grown-other is.kept count (Some to) p other)) ∙ lies)
          ∙ sym (grown-last is.kept count (Some to) b p (omega arith)));
    }

pub table-put : (old new : Targets) (at : ℕ → Option Name) (count : ℕ) (to : Name) → at count ≡ Some to → count < length old.before → bucket_of to < length old.last
    → new.last ≡ set old.last (bucket_of to) (suc count) → new.before ≡ set old.before count (get_or old.last (bucket_of to) 0)
    → IsTable old at count → bucket_of to < 256 → IsTable new at (count + 1)
table-put old new at count to target_is few low last_is before_is is small =
    subst (λ (k : ℕ). IsTable new at k) (sym (add-one count)) (put_by old new at count to target_is few low last_is before_is is small)

pub empty-table : (table : Targets) (at : ℕ → Option Name) → table.last ≡ replicate 256 0 → IsTable table at 0
empty-table table at last = record {
  kept = λ p. None;
  its = λ p n e. absurd cc;
  found = λ n. refl;
  last = λ b low. ap (λ (l : List ℕ). get_or l b 0) last ∙ get_or-filled 256 b 0;
  before = λ p b lt lies. absurd (omega arith);
}

-- ---- what the later calls find

found_all : (at : ℕ → Option Name) (to : Option Name) (n : Name) (i : ℕ) → at 0 ≡ to → is_found at n (suc i) ≡ (is_target n to || is_found (λ p. at (suc p)) n i)
found_all at to n zero first = ap (is_target n) first ∙ sym (or_false (is_target n to))
found_all at to n (suc i) first =
    ap (λ x. x || is_target n (at (suc i))) (found_all at to n i first)
    ∙ or_assoc (is_target n to) (is_found (λ p. at (suc p)) n i) (is_target n (at (suc i)))

found_targets : (calls : List Call) (n : Name) → is_found (target_at (targets_of calls)) n (length calls) ≡ list_any (λ t. is_target n (target t)) (map task_of calls)
found_targets [] n = refl
found_targets (call ∷ calls) n =
    found_all (target_at (targets_of (call ∷ calls))) (target (task_of call)) n (length calls) refl
    ∙ ap (λ x. is_target n (target (task_of call)) || x) (found_targets calls n)

shuffle : (a b c d : Bool) → ((a || b) || (c || d)) ≡ ((a || c) || (b || d))
shuffle true b c d = refl
shuffle false true true d = refl
shuffle false true false d = refl
shuffle false false c d = refl

pub any_either : {X : Type 0} (f g : X → Bool) (xs : List X) → list_any (λ x. f x || g x) xs ≡ (list_any f xs || list_any g xs)
any_either f g [] = refl
any_either f g (x ∷ xs) = ap (λ b. (f x || g x) || b) (any_either f g xs) ∙ shuffle (f x) (g x) (list_any f xs) (list_any g xs)

pub any_false : {X : Type 0} (xs : List X) → list_any (λ x. false) xs ≡ false
any_false [] = refl
any_false (x ∷ xs) = any_false xs

any_same : {X : Type 0} (f g : X → Bool) (xs : List X) → ((x : X) → f x ≡ g x) → list_any f xs ≡ list_any g xs
any_same f g [] same = refl
any_same f g (x ∷ xs) same = ap (λ b. b || list_any f xs) (same x) ∙ ap (λ b. g x || b) (any_same f g xs same)

any_swap : {X Y : Type 0} (f : X → Y → Bool) (xs : List X) (ys : List Y) → list_any (λ x. list_any (f x) ys) xs ≡ list_any (λ y. list_any (λ x. f x y) xs) ys
any_swap f [] ys = sym (any_false ys)
any_swap f (x ∷ xs) ys = ap (λ b. list_any (f x) ys || b) (any_swap f xs ys) ∙ sym (any_either (f x) (λ y. list_any (λ z. f z y) xs) ys)

among_targets : (to : Option Name) (names : List Name) → is_among to names ≡ list_any (λ n. is_target n to) names
among_targets None names = sym (any_false names)
among_targets (Some to) names = refl

-- the targets that one later call reads
pub call-found : (calls : List Call) (u : Task) → list_any (λ n. is_found (target_at (targets_of calls)) n (length calls)) (reads u) ≡ list_any (λ t. clashes t u) (map task_of calls)
call-found calls u =
    any_same (λ n. is_found (target_at (targets_of calls)) n (length calls)) (λ n. list_any (λ t. is_target n (target t)) (map task_of calls)) (reads u) (λ n. found_targets calls n)
    ∙ any_swap (λ n t. is_target n (target t)) (reads u) (map task_of calls)
    ∙ any_same (λ t. list_any (λ n. is_target n (target t)) (reads u)) (λ t. clashes t u) (map task_of calls) (λ t. sym (among_targets (target t) (reads u)))

pub clash-found : (earlier later : List Task) → list_any (λ u. list_any (λ t. clashes t u) earlier) later ≡ jobs_clash earlier later
clash-found earlier later = sym (any_swap clashes earlier later)

pub clash-none : (earlier : List Task) → jobs_clash earlier [] ≡ false
clash-none earlier = sym (clash-found earlier [])

-- one more later call
pub clash-more : (earlier later : List Task) (u : Task) → jobs_clash earlier (later ++ u ∷ []) ≡ (jobs_clash earlier later || list_any (λ t. clashes t u) earlier)
clash-more earlier later u =
    sym (clash-found earlier (later ++ u ∷ []))
    ∙ any-push (λ v. list_any (λ t. clashes t v) earlier) later u
    ∙ ap (λ b. b || list_any (λ t. clashes t u) earlier) (clash-found earlier later)

-- one later call is enough
pub clash-at : (earlier : List Task) (later : List Call) (i : ℕ) (d : Call) → i < length later → list_any (λ t. clashes t (task_of (get_or later i d))) earlier ≡ true → jobs_clash earlier (map task_of later) ≡ true
clash-at earlier later i d lt hit =
    sym (clash-found earlier (map task_of later))
    ∙ any-map (λ u. list_any (λ t. clashes t u) earlier) task_of later
    ∙ list_any_at (λ call. list_any (λ t. clashes t (task_of call)) earlier) later i d lt hit

-- each earlier call with each later one
pub clash-calls : (earlier later : List Call) → list_any (λ e. list_any (λ l. clashes (task_of e) (task_of l)) later) earlier ≡ jobs_clash (map task_of earlier) (map task_of later)
clash-calls earlier later =
    any_same (λ e. list_any (λ l. clashes (task_of e) (task_of l)) later) (λ e. list_any (clashes (task_of e)) (map task_of later)) earlier (λ e. sym (any-map (clashes (task_of e)) task_of later))
    ∙ sym (any-map (λ t. list_any (clashes t) (map task_of later)) task_of earlier)

-- the target of the call that stands at a place
pub target-is : (calls : List Call) (i : ℕ) (d : Call) → i < length calls → d ≡ get_or calls i d → target_at (targets_of calls) i ≡ target (task_of d)
target-is calls i d lt is = get_or-map (λ (q : Call). target (task_of q)) calls i d None lt ∙ ap (λ (q : Call). target (task_of q)) (sym is)

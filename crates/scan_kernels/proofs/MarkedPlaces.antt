-- The places that an index holds, as marks: `sorted_more`, `marked_more`, `block_marked` (a part that is marked, one more
-- index, place and block), `part_marked` (all of it); `marks_many`, `marks_is`, `marks_lengths`, `length-segmented_marks` (segments); `marks_all` (all marks are set where each segment is a
-- permutation).
use Rattle.std.proofs.Common.{◌≡◌, ◌↔◌, ℕ, zero, suc, ◌+◌, ◌<◌, ◌≤◌, List, [], ◌∷◌, ◌++◌, length, take, drop, map, refl, sym, ap, ◌∙◌, get_or, sum, ℤ, pos, Bool, true, false, cond, count_by, set, arith}
use Rattle.std.specs.Prelude.{nat_eq, nat_lt, ◌&&◌, ◌||◌}
use Rattle.std.specs.Ordering.{int_eq}
use Rattle.std.proofs.Math.Bool.{or_assoc}
use Rattle.std.proofs.lemmas.Bool.Decides.{nat_tests}
use Rattle.std.proofs.lemmas.List.{get_or_default, get_or-drop, get_or-map, get_or-take, length-drop, length-map, length-take-le, same_lists, take-set, take_more_set}
use Rattle.std.proofs.lemmas.List.Elements.{All-cons, All-head, All-nil, All-tail}
use Rattle.std.proofs.lemmas.List.Folds.{list_all-append}
use Rattle.std.proofs.lemmas.List.FromFn.{get_or-map-range_with_len, length-map-range_with_len}
use Rattle.std.proofs.lemmas.List.Sums.{AllPass-from_list_all, count_by_more_no, list_all-from_AllPass, sum_by-append, sum_by-cons, sum_by-take-drop, sum_by_more}
use Rattle.segment_desc.specs.Cut.{cut}
use Rattle.scan_kernels.specs.Indices.{HoldsEachPlaceOnce, PermuteSegments, times_held}
use Rattle.scan_kernels.specs.Marked.{all_set, marks, segmented_marks}
use Rattle.scan_kernels.proofs.Counting.{held_once}
use Rattle.scan_kernels.proofs.SegmentLists.{joined_map}
use Rattle.scan_kernels.proofs.SegmentRuns.{length-joined}
use Rattle.scan_kernels.proofs.Segments.{length_cut, segment_at}

pub length-marks : (index : List ℤ) → length (marks index) ≡ length index
unfolding marks
length-marks index = length-map-range_with_len (λ p. nat_lt 0 (times_held p index)) 0 (length index)

marks_at : (index : List ℤ) (p : ℕ) (d : Bool) → p < length index → get_or (marks index) p d ≡ nat_lt 0 (times_held p index)
unfolding marks
marks_at index p d h = get_or-map-range_with_len (λ p. nat_lt 0 (times_held p index)) 0 (length index) p p d h (omega arith)

some_or_some : (a b : ℕ) → nat_lt 0 (a + b) ≡ (nat_lt 0 a || nat_lt 0 b)
some_or_some zero b = ap (nat_lt 0) (let same : 0 + b ≡ b = omega arith in same)
some_or_some (suc a) b = let more : 0 < suc a + b = omega arith in grind (arith, nat_tests)

some_or_one : (a : ℕ) (b : Bool) → nat_lt 0 (a + cond b 1 0) ≡ (nat_lt 0 a || b)
some_or_one a b = some_or_some a (cond b 1 0) ∙ ap (λ c. nat_lt 0 a || c) (one b) where
  one : (c : Bool) → nat_lt 0 (cond c 1 0) ≡ c
  one true = refl
  one false = refl

-- what one more item marks
pub marked_more : {X : Type 0} (test : X → Bool) (xs : List X) (i : ℕ) (d : X) (was old new : Bool) → i < length xs → old ≡ (was || nat_lt 0 (count_by test (take i xs)))
    → new ≡ (old || test (get_or xs i d)) → new ≡ (was || nat_lt 0 (count_by test (take (i + 1) xs)))
marked_more test xs i d was old new lt before now =
    let here = test (get_or xs i d) in
    let so_far = nat_lt 0 (count_by test (take i xs)) in
    let more : count_by test (take (i + 1) xs) ≡ count_by test (take i xs) + cond here 1 0 = sum_by_more (λ x. cond (test x) 1 0) xs i d lt in
    now
    ∙ ap (λ b. b || here) before
    ∙ or_assoc was so_far here
    ∙ ap (λ b. was || b) (sym (ap (nat_lt 0) more ∙ some_or_one (count_by test (take i xs)) here))

-- the marks that are made and those that are still to be made are those of the index
abbrev pub PartMarked : List ℤ → ℕ → List ℤ → List Bool → Type 0
PartMarked index start rest part = (j : ℕ) → j < length part → (get_or part j false || nat_lt 0 (times_held (start + j) rest)) ≡ nat_lt 0 (times_held (start + j) index)

-- what one more block marks
pub block_marked : (index rest : List ℤ) (start k : ℕ) (old new : List Bool) → length new ≡ length old
    → ((j : ℕ) → j < length old → get_or new j false ≡ (get_or old j false || nat_lt 0 (times_held (start + j) (take k rest))))
    → PartMarked index start rest old → PartMarked index start (drop k rest) new
block_marked index rest start k old new same each before j within =
    let inside : j < length old = omega arith in
    let p = start + j in
    let block = nat_lt 0 (times_held p (take k rest)) in
    let later = nat_lt 0 (times_held p (drop k rest)) in
    let parts : times_held p rest ≡ times_held p (take k rest) + times_held p (drop k rest) = sym (sum_by-take-drop (λ z. cond (int_eq z (pos p)) 1 0) rest k) in
    ap (λ b. b || later) (each j inside)
    ∙ or_assoc (get_or old j false) block later
    ∙ ap (λ b. get_or old j false || b) (sym (ap (nat_lt 0) parts ∙ some_or_some (times_held p (take k rest)) (times_held p (drop k rest))))
    ∙ before j inside

-- one more index is sorted out
pub sorted_more : (index : List ℤ) (start i count behind j : ℕ) (falls : Bool) (held : ℤ) (fallen : List ℕ) → i < length index → count < length fallen → held ≡ get_or index i (pos 0)
    → (falls && nat_eq behind j) ≡ int_eq held (pos (start + j)) → count_by (λ b. nat_eq b j) (take count fallen) ≡ times_held (start + j) (take i index)
    → count_by (λ b. nat_eq b j) (take (count + cond falls 1 0) (set fallen count behind)) ≡ times_held (start + j) (take (i + 1) index)
sorted_more index start i count behind j true held fallen lt room is test before =
    let more : times_held (start + j) (take (i + 1) index) ≡ times_held (start + j) (take i index) + cond (int_eq (get_or index i (pos 0)) (pos (start + j))) 1 0 = sum_by_more (λ z. cond (int_eq z (pos (start + j))) 1 0) index i (pos 0) lt in
    let one : cond (nat_eq behind j) 1 0 ≡ cond (int_eq (get_or index i (pos 0)) (pos (start + j))) 1 0 = ap {B = ℕ} (λ b. cond b 1 0) (test ∙ ap (λ z. int_eq z (pos (start + j))) is) in
    let put : count_by (λ b. nat_eq b j) (take (count + 1) (set fallen count behind)) ≡ count_by (λ b. nat_eq b j) (take count fallen) + cond (nat_eq behind j) 1 0 =
    ap (count_by (λ b. nat_eq b j)) (take_more_set fallen count behind room)
    ∙ sum_by-append (λ b. cond (nat_eq b j) 1 0) (take count fallen) (behind ∷ [])
    ∙ omega arith in
    put ∙ ap (λ n. n + cond (nat_eq behind j) 1 0) before ∙ ap (λ n. times_held (start + j) (take i index) + n) one ∙ sym more
sorted_more index start i count behind j false held fallen lt room is test before =
    let more : times_held (start + j) (take (i + 1) index) ≡ times_held (start + j) (take i index) = count_by_more_no (λ z. int_eq z (pos (start + j))) index i (pos 0) lt (ap (λ z. int_eq z (pos (start + j))) (sym is) ∙ sym test) in
    let none : count + 0 ≡ count = omega arith in
    ap (λ n. count_by (λ b. nat_eq b j) (take n (set fallen count behind))) none
    ∙ ap (count_by (λ b. nat_eq b j)) (take-set fallen count behind)
    ∙ before
    ∙ sym more

pub part_marked : (index : List ℤ) (start : ℕ) (part : List Bool) → start + length part ≤ length index
    → ((j : ℕ) → j < length part → get_or part j false ≡ nat_lt 0 (times_held (start + j) index))
    → part ≡ take (length part) (drop start (marks index))
part_marked index start part within marked =
    let all = marks index in
    let many = length-marks index in
    let rest = length-drop start all in
    let long : length (take (length part) (drop start all)) ≡ length part = length-take-le (length part) (drop start all) (omega arith) in
    same_lists part (take (length part) (drop start all)) (sym long) (λ j d lt.
    get_or_default part j d false lt
    ∙ marked j lt
    ∙ sym (marks_at index (start + j) d (omega arith))
    ∙ sym (get_or-take (length part) (drop start all) j d lt ∙ get_or-drop start all j d))

-- an index whose marks are all set is a permutation
marks_all : (index : List ℤ) → (all_set (marks index) ≡ true) ↔ HoldsEachPlaceOnce index
marks_all index =
    let many = length-marks index in (
      λ h. held_once index (λ p lt.
          let set : nat_lt 0 (times_held p index) ≡ true = sym (marks_at index p false lt) ∙ AllPass-from_list_all (λ b. b) (marks index) h p false (omega arith) in
          grind (arith, nat_tests)),
      λ h. list_all-from_AllPass (λ b. b) (marks index) (λ p d lt.
          let inside : p < length index = omega arith in
          marks_at index p d inside ∙ ap (nat_lt 0) (h p inside)),
    )

both_set : (xs ys : List Bool) → all_set (xs ++ ys) ≡ true → (all_set xs ≡ true) × (all_set ys ≡ true)
both_set [] ys h = (refl, h)
both_set (true ∷ xs) ys h = both_set xs ys h
both_set (false ∷ xs) ys h = absurd cc

-- all marks of the segments are set where each segment is a permutation
pub segmented_marks_all : (ls : List ℕ) (index : List ℤ) → (all_set (segmented_marks ls index) ≡ true) ↔ PermuteSegments ls index
unfolding PermuteSegments
segmented_marks_all [] index = (λ h. All-nil HoldsEachPlaceOnce, λ h. refl)
segmented_marks_all (l ∷ ls) index =
    let first = take l index in
    let rest = drop l index in
    let later = segmented_marks_all ls rest in
    let here = marks_all first in (
      λ h.
          let parts = both_set (marks first) (segmented_marks ls rest) h in
          All-cons HoldsEachPlaceOnce first (cut ls rest) (here.0 parts.0) (later.0 parts.1),
      λ h.
          let front = here.1 (All-head HoldsEachPlaceOnce first (cut ls rest) h) in
          let back = later.1 (All-tail HoldsEachPlaceOnce first (cut ls rest) h) in
          list_all-append (λ b. b) (marks first) (segmented_marks ls rest)
          ∙ ap (λ b. b && all_set (segmented_marks ls rest)) front
          ∙ back,
    )

pub marks_lengths : (ls : List ℕ) (index : List ℤ) → sum ls ≡ length index → ls ≡ map length (map marks (cut ls index))
marks_lengths [] index total = refl
marks_lengths (l ∷ ls) index total =
    let parts = sum_by-cons (λ (n : ℕ). n) l ls in
    let here : length (marks (take l index)) ≡ l = length-marks (take l index) ∙ length-take-le l index (omega arith) in
    let rest : sum ls ≡ length (drop l index) = omega (arith, length-drop l index) in
    ap (λ k. k ∷ ls) (sym here) ∙ ap (λ ks. length (marks (take l index)) ∷ ks) (marks_lengths ls (drop l index) rest)

pub length-segmented_marks : (ls : List ℕ) (index : List ℤ) → sum ls ≡ length index → length (segmented_marks ls index) ≡ length index
length-segmented_marks ls index total =
    ap length (sym (joined_map marks (cut ls index)))
    ∙ length-joined (map marks (cut ls index))
    ∙ ap sum (sym (marks_lengths ls index total))
    ∙ total

module _ (ls : List ℕ) (index : List ℤ) where
  pub marks_many : length (map marks (cut ls index)) ≡ length ls
  marks_many = length-map (cut ls index) marks ∙ length_cut ls index

  pub marks_is : (n : ℕ) → n < length ls → get_or (map marks (cut ls index)) n [] ≡ marks (take (get_or ls n 0) (drop (sum (take n ls)) index))
  marks_is n h =
      let many = length_cut ls index in
      get_or-map marks (cut ls index) n [] [] (omega arith) ∙ ap marks (segment_at ls index n [] h)

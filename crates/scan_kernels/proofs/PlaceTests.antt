-- Which indices are places: `places_all` (of one list), `within-run` (those of a segment, from any place in it on),
-- `each_within_all` (of segments). `all_set-part` (what one part says of all), `chunks_set_all` (what the chunks say),
-- `chunk_at` (one of them).
use Rattle.std.proofs.Common.{◌≡◌, ◌↔◌, ℕ, zero, suc, ◌+◌, ◌-◌, ◌*◌, ◌<◌, ◌≤◌, List, [], ◌∷◌, ◌++◌, length, take, drop, map, refl, sym, ap, ◌∙◌, get_or, sum, subst, ℤ, pos, negsuc, Bool, true, false, arith, All, Some, add-one, length-append}
use Rattle.std.specs.Prelude.{◌&&◌}
use Rattle.std.specs.List.{range_with_len, slice_get}
use Rattle.std.proofs.Math.Bool.{and-false, and-true}
use Rattle.std.proofs.Math.Seq.{drop-append-add, take-add}
use Rattle.std.proofs.lemmas.Bool.Decides.{nat_tests}
use Rattle.std.proofs.lemmas.List.{drop-append-le, drop-drop, drop-map, length-drop, length-map, length-take-le, take-append-le, take-map, take_all}
use Rattle.std.proofs.lemmas.List.Elements.{All-cons, All-head, All-nil, All-tail}
use Rattle.std.proofs.lemmas.List.Folds.{list_all-append}
use Rattle.std.proofs.lemmas.List.FromFn.{get_or-map-range_with_len, length-map-range_with_len, map-range_with_len_more}
use Rattle.std.proofs.lemmas.List.Sums.{sum_by-cons}
use Rattle.std.proofs.lemmas.Option.{slice_get-get_or}
use Rattle.scan_kernels.specs.Indices.{IsPlaceOf, LieWithin}
use Rattle.scan_kernels.specs.Marked.{all_set, chunks_set, each_within, is_place}
use Rattle.scan_kernels.proofs.Carried.{part-of_take}

is_place_decides : (n : ℕ) (z : ℤ) → (is_place n z ≡ true) ↔ IsPlaceOf n z
is_place_decides n (pos p) = (λ h. grind (arith, nat_tests), λ h. grind (arith, nat_tests, h.1))
is_place_decides n (negsuc p) = (λ h. absurd cc, λ h. absurd (grind (arith, h.0)))

both_true : (b c : Bool) → (b && c) ≡ true → (b ≡ true) × (c ≡ true)
both_true true c h = (refl, h)
both_true false c h = absurd cc

and_true : (b c : Bool) → b ≡ true → c ≡ true → (b && c) ≡ true
and_true true c h k = k
and_true false c h k = absurd cc

pub places_all : (n : ℕ) (index : List ℤ) → (all_set (map (is_place n) index) ≡ true) ↔ All (IsPlaceOf n) index
places_all n [] = (λ h. All-nil (IsPlaceOf n), λ h. refl)
places_all n (z ∷ index) =
    let here = is_place_decides n z in
    let later = places_all n index in (
      λ h. let parts = both_true (is_place n z) (all_set (map (is_place n) index)) h in All-cons (IsPlaceOf n) z index (here.0 parts.0) (later.0 parts.1),
      λ h. and_true (is_place n z) (all_set (map (is_place n) index)) (here.1 (All-head (IsPlaceOf n) z index h)) (later.1 (All-tail (IsPlaceOf n) z index h)),
    )

pub each_within_all : (ss ts : List ℕ) (index : List ℤ) → length ss ≡ length ts → (all_set (each_within ss ts index) ≡ true) ↔ LieWithin ss ts index
each_within_all [] [] index same = (λ h. tt, λ h. refl)
each_within_all [] (t ∷ ts) index same = absurd (omega arith)
each_within_all (s ∷ ss) [] index same = absurd (omega arith)
each_within_all (s ∷ ss) (t ∷ ts) index same =
    let first = map (is_place s) (take t index) in
    let rest = each_within ss ts (drop t index) in
    let here = places_all s (take t index) in
    let later = each_within_all ss ts (drop t index) (omega arith) in
    let parts = list_all-append (λ b. b) first rest in (
      λ h. let each = both_true (all_set first) (all_set rest) (sym parts ∙ h) in (here.0 each.0, later.0 each.1),
      λ h. parts ∙ and_true (all_set first) (all_set rest) (here.1 h.0) (later.1 h.1),
    )

pub length-each_within : (ss ts : List ℕ) (index : List ℤ) → length ss ≡ length ts → sum ts ≡ length index → length (each_within ss ts index) ≡ length index
length-each_within [] [] index same total = total
length-each_within [] (t ∷ ts) index same total = absurd (omega arith)
length-each_within (s ∷ ss) [] index same total = absurd (omega arith)
length-each_within (s ∷ ss) (t ∷ ts) index same total =
    let lengths = sum_by-cons (λ (n : ℕ). n) t ts in
    let left = length-drop t index in
    let long = length-take-le t index (omega arith) in
    let later = length-each_within ss ts (drop t index) (omega arith) (omega arith) in
    omega (arith, length-append (map (is_place s) (take t index)) (each_within ss ts (drop t index)), length-map (take t index) (is_place s))

-- whether they are places, of indices of one segment
pub within-run : (ss ts : List ℕ) (index : List ℤ) (n b at r : ℕ) → length ss ≡ length ts → sum ts ≡ length index → n < length ts → b ≡ sum (take n ts)
    → b ≤ at → at + r ≤ b + get_or ts n 0 → take r (drop at (each_within ss ts index)) ≡ map (is_place (get_or ss n 0)) (take r (drop at index))
within-run [] [] index n b at r same total lt begin behind within = absurd (omega arith)
within-run [] (t ∷ ts) index n b at r same total lt begin behind within = absurd (omega arith)
within-run (s ∷ ss) [] index n b at r same total lt begin behind within = absurd (omega arith)
within-run (s ∷ ss) (t ∷ ts) index zero b at r same total lt begin behind within =
    let lengths = sum_by-cons (λ (n : ℕ). n) t ts in
    let first = map (is_place s) (take t index) in
    let rest = each_within ss ts (drop t index) in
    let long : length first ≡ t = length-map (take t index) (is_place s) ∙ length-take-le t index (omega arith) in
    let left = length-drop at first in
    ap (take r) (drop-append-le at first rest (omega arith))
    ∙ take-append-le r (drop at first) rest (omega arith)
    ∙ ap (take r) (drop-map (is_place s) at (take t index))
    ∙ take-map (is_place s) r (drop at (take t index))
    ∙ ap (map (is_place s)) (part-of_take at t r index (omega arith))
within-run (s ∷ ss) (t ∷ ts) index (suc n) b at r same total lt begin behind within =
    let lengths = sum_by-cons (λ (n : ℕ). n) t ts in
    let before = sum_by-cons (λ (n : ℕ). n) t (take n ts) in
    let first = map (is_place s) (take t index) in
    let rest = each_within ss ts (drop t index) in
    let long : length first ≡ t = length-map (take t index) (is_place s) ∙ length-take-le t index (omega arith) in
    let left = length-drop t index in
    let place : at ≡ length first + (at - t) = omega arith in
    let there : at - t + t ≡ at = omega arith in
    ap (λ k. take r (drop k (first ++ rest))) place
    ∙ ap (take r) (drop-append-add first rest (at - t))
    ∙ within-run ss ts (drop t index) n (b - t) (at - t) r (omega arith) (omega arith) (omega arith) (omega arith) (omega arith) (omega arith)
    ∙ ap (λ l. map (is_place (get_or ss n 0)) (take r l)) (drop-drop (at - t) t index ∙ ap (λ k. drop k index) (omega arith))

-- a part of which not all are set
pub all_set-part : (flags : List Bool) (start at stop end : ℕ) → start ≤ at → at ≤ stop → stop ≤ end
    → all_set (take (stop - at) (drop at flags)) ≡ false → all_set (take (end - start) (drop start flags)) ≡ false
all_set-part flags start at stop end h k l unset =
    let front = take (at - start) (drop start flags) in
    let rest = drop (at - start) (drop start flags) in
    let more : end - start ≡ (at - start) + ((stop - at) + (end - stop)) = omega arith in
    let place : drop (at - start) (drop start flags) ≡ drop at flags = drop-drop (at - start) start flags ∙ ap (λ n. drop n flags) (omega arith) in
    let behind = drop (stop - at) (drop at flags) in
    let split : take (end - start) (drop start flags) ≡ front ++ (take (stop - at) (drop at flags) ++ take (end - stop) behind) =
    ap (λ n. take n (drop start flags)) more
    ∙ take-add (at - start) ((stop - at) + (end - stop)) (drop start flags)
    ∙ ap (λ zs. front ++ take ((stop - at) + (end - stop)) zs) place
    ∙ ap (λ zs. front ++ zs) (take-add (stop - at) (end - stop) (drop at flags)) in
    ap all_set split
    ∙ list_all-append (λ b. b) front (take (stop - at) (drop at flags) ++ take (end - stop) behind)
    ∙ ap (λ b. all_set front && b) (list_all-append (λ b. b) (take (stop - at) (drop at flags)) (take (end - stop) behind) ∙ ap (λ b. b && all_set (take (end - stop) behind)) unset)
    ∙ and-false (all_set front)

-- one more part of which all are set
pub all_set-more : (flags : List Bool) (start at stop : ℕ) → start ≤ at → at ≤ stop → all_set (take (at - start) (drop start flags)) ≡ true
    → all_set (take (stop - at) (drop at flags)) ≡ true → all_set (take (stop - start) (drop start flags)) ≡ true
all_set-more flags start at stop h k before here =
    let front = take (at - start) (drop start flags) in
    let more : stop - start ≡ (at - start) + (stop - at) = omega arith in
    let place : drop (at - start) (drop start flags) ≡ drop at flags = drop-drop (at - start) start flags ∙ ap (λ n. drop n flags) (omega arith) in
    ap (λ n. all_set (take n (drop start flags))) more
    ∙ ap all_set (take-add (at - start) (stop - at) (drop start flags) ∙ ap (λ zs. front ++ take (stop - at) zs) place)
    ∙ list_all-append (λ b. b) front (take (stop - at) (drop at flags))
    ∙ and_true (all_set front) (all_set (take (stop - at) (drop at flags))) before here

module _ (size : ℕ) (flags : List Bool) where
  pub length-chunks_set : (count : ℕ) → length (chunks_set count size flags) ≡ count
  unfolding chunks_set
  length-chunks_set count = length-map-range_with_len (λ k. all_set (take size (drop (k * size) flags))) 0 count

  abbrev chunk_set : ℕ → Bool
  chunk_set k = all_set (take size (drop (k * size) flags))

  front_set : (count : ℕ) → all_set (map chunk_set (range_with_len 0 count)) ≡ all_set (take (count * size) flags)
  front_set zero = ap (λ n. all_set (take n flags)) (let none : 0 ≡ 0 * size = omega arith in none)
  front_set (suc count) =
      let next : (count + 1) * size ≡ count * size + size = omega arith in
      let chunk = take size (drop (count * size) flags) in
      let more : all_set (map chunk_set (range_with_len 0 (count + 1))) ≡ all_set (take ((count + 1) * size) flags) =
      ap all_set (map-range_with_len_more chunk_set 0 count count (omega arith))
      ∙ list_all-append (λ b. b) (map chunk_set (range_with_len 0 count)) (chunk_set count ∷ [])
      ∙ ap (λ b. b && (chunk_set count && true)) (front_set count)
      ∙ ap (λ b. all_set (take (count * size) flags) && b) (and-true (chunk_set count))
      ∙ sym (list_all-append (λ b. b) (take (count * size) flags) chunk)
      ∙ ap all_set (sym (take-add (count * size) size flags))
      ∙ ap (λ n. all_set (take n flags)) (sym next) in
      subst (λ n. all_set (map chunk_set (range_with_len 0 n)) ≡ all_set (take (n * size) flags)) (add-one count) more

  -- all are set where all are in each chunk
  pub chunks_set_all : (count : ℕ) → length flags ≤ count * size → all_set (chunks_set count size flags) ≡ all_set flags
  unfolding chunks_set
  chunks_set_all count past = front_set count ∙ ap all_set (take_all (count * size) flags past)

  pub chunk_at : (count k : ℕ) → k < count → slice_get (chunks_set count size flags) k ≡ Some (all_set (take size (drop (k * size) flags)))
  unfolding chunks_set
  chunk_at count k h =
      let many = length-chunks_set count in
      slice_get-get_or (chunks_set count size flags) k false (omega arith)
      ∙ ap Some (get_or-map-range_with_len (λ k. all_set (take size (drop (k * size) flags))) 0 count k k false h (omega arith))

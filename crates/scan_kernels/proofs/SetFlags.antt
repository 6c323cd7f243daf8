-- How many flags are set in segments: `numbers_long` (one number for each), `numbers_set-part` (of segments in a row),
-- `numbers_are` (as integers and as numbers), `sum-each_number` (all together), `number_set-take` (of the
-- first flags), `numbers_set-take_more` (of one more segment). `all_set_number`: whether all are set.
use Rattle.std.proofs.Common.{◌≡◌, ℕ, zero, suc, ◌+◌, ◌<◌, List, [], ◌∷◌, ◌++◌, length, take, drop, map, refl, sym, ap, ◌∙◌, get_or, sum, pos, Bool, true, false, cond, eqb, unsigned_abs, arith}
use Rattle.std.proofs.lemmas.List.{drop-drop, length-drop, length-map, map-append, take-append-drop}
use Rattle.std.proofs.lemmas.Bool.Decides.{nat_tests}
use Rattle.std.proofs.lemmas.List.Sums.{count_by-le-length, sum_by-append, sum_by-cons}
use Rattle.segment_desc.specs.Cut.{cut}
use Rattle.scan_kernels.specs.Marked.{all_set}
use Rattle.scan_kernels.specs.Packed.{each_number, number_set, numbers_set}
use Rattle.scan_kernels.proofs.CutLists.{cut-take_more}
use Rattle.scan_kernels.proofs.Segments.{length_cut}

pub numbers_long : (ls : List ℕ) (flags : List Bool) → length (numbers_set ls flags) ≡ length ls
numbers_long ls flags = length-map (cut ls flags) (λ segment. pos (number_set segment)) ∙ length_cut ls flags

take-numbers_set : (k : ℕ) (ls : List ℕ) (flags : List Bool) → take k (numbers_set ls flags) ≡ numbers_set (take k ls) flags
take-numbers_set zero ls flags = refl
take-numbers_set (suc k) [] flags = refl
take-numbers_set (suc k) (l ∷ ls) flags = ap (λ zs. pos (number_set (take l flags)) ∷ zs) (take-numbers_set k ls (drop l flags))

drop-numbers_set : (i : ℕ) (ls : List ℕ) (flags : List Bool) → drop i (numbers_set ls flags) ≡ numbers_set (drop i ls) (drop (sum (take i ls)) flags)
drop-numbers_set zero ls flags = refl
drop-numbers_set (suc i) [] flags = refl
drop-numbers_set (suc i) (l ∷ ls) flags =
    rw (sum_by-cons (λ (n : ℕ). n) l (take i ls)) (drop-numbers_set i ls (drop l flags) ∙ ap (numbers_set (drop i ls)) (drop-drop (sum (take i ls)) l flags))

pub numbers_set-part : (i k : ℕ) (ls : List ℕ) (flags : List Bool)
    → take k (drop i (numbers_set ls flags)) ≡ numbers_set (take k (drop i ls)) (drop (sum (take i ls)) flags)
numbers_set-part i k ls flags = ap (take k) (drop-numbers_set i ls flags) ∙ take-numbers_set k (drop i ls) (drop (sum (take i ls)) flags)

pub numbers_are : (ls : List ℕ) (flags : List Bool) → map unsigned_abs (numbers_set ls flags) ≡ each_number ls flags
numbers_are [] flags = refl
numbers_are (l ∷ ls) flags = ap (λ ns. number_set (take l flags) ∷ ns) (numbers_are ls (drop l flags))

pub number_set-take : (at : ℕ) (flags : List Bool) → number_set (take at flags) + number_set (drop at flags) ≡ number_set flags
number_set-take at flags = sym (sum_by-append (λ b. cond b 1 0) (take at flags) (drop at flags)) ∙ ap number_set (take-append-drop at flags)

pub sum-each_number : (ls : List ℕ) (flags : List Bool) → sum ls ≡ length flags → sum (each_number ls flags) ≡ number_set flags
sum-each_number [] [] total = refl
sum-each_number [] (b ∷ flags) total = absurd (omega arith)
sum-each_number (l ∷ ls) flags total =
    let lengths = sum_by-cons (λ (n : ℕ). n) l ls in
    let rest : sum ls ≡ length (drop l flags) = omega (arith, length-drop l flags) in
    sum_by-cons (λ (n : ℕ). n) (number_set (take l flags)) (each_number ls (drop l flags))
    ∙ ap (λ n. number_set (take l flags) + n) (sum-each_number ls (drop l flags) rest)
    ∙ number_set-take l flags

-- one more segment
pub numbers_set-take_more : (ls : List ℕ) (i : ℕ) (flags : List Bool) → i < length ls
    → numbers_set (take (i + 1) ls) flags ≡ numbers_set (take i ls) flags ++ pos (number_set (take (get_or ls i 0) (drop (sum (take i ls)) flags))) ∷ []
numbers_set-take_more ls i flags h =
    let next = take (get_or ls i 0) (drop (sum (take i ls)) flags) in
    ap (map (λ s. pos (number_set s))) (cut-take_more ls i flags h) ∙ map-append (λ s. pos (number_set s)) (cut (take i ls) flags) (next ∷ [])

-- as many flags are set as there are where all are
pub all_set_number : (flags : List Bool) → eqb (number_set flags) (length flags) ≡ all_set flags
all_set_number [] = refl
all_set_number (true ∷ flags) =
    let more = sum_by-cons (λ b. cond b 1 0) true flags in
    let rest = all_set_number flags in
    grind (arith, nat_tests)
all_set_number (false ∷ flags) =
    let more = sum_by-cons (λ b. cond b 1 0) false flags in
    let few = count_by-le-length (λ b. b) flags in
    grind (arith, nat_tests)

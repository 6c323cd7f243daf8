-- Lists that are cut into segments, one more segment at a time: `cut_more`, `length_segment`, `segment_at` (the segment at
-- a place), `cut_same` (what lies past the segments does not matter), and relations between segments (`AllZip_push`,
-- `AllZip_at`, `zip_push`).
use Rattle.std.proofs.Common.{◌≡◌, ℕ, zero, suc, ◌+◌, ◌-◌, ◌<◌, List, [], ◌∷◌, ◌++◌, length, take, drop, refl, sym, ap, ◌∙◌, get_or, sum, zip, subst, All, arith}
use Rattle.std.specs.List.{AllZip}
use Rattle.std.proofs.lemmas.List.{drop-drop, length-drop, length-take-le, take-take, drop-take}
use Rattle.std.proofs.lemmas.List.Elements.{All-push}
use Rattle.std.proofs.lemmas.List.Sums.{sum_by-cons}
use Rattle.segment_desc.specs.Cut.{cut}
use Rattle.scan_kernels.proofs.CutLists.{cut-take_more}
use Rattle.scan_kernels.proofs.NextSegment.{segment_within}

module _ {X : Type 0} where
  pub length_cut : (ls : List ℕ) (xs : List X) → length (cut ls xs) ≡ length ls
  length_cut [] xs = refl
  length_cut (l ∷ ls) xs = ap suc (length_cut ls (drop l xs))

  pub segment_at : (ls : List ℕ) (xs : List X) (j : ℕ) (d : List X) → j < length ls → get_or (cut ls xs) j d ≡ take (get_or ls j 0) (drop (sum (take j ls)) xs)
  segment_at [] xs j d h = absurd (omega arith)
  segment_at (l ∷ ls) xs zero d h = refl
  segment_at (l ∷ ls) xs (suc j) d h =
      segment_at ls (drop l xs) j d (omega arith)
      ∙ ap (take (get_or ls j 0)) (drop-drop (sum (take j ls)) l xs ∙ ap (λ n. drop n xs) (sym (sum_by-cons (λ (n : ℕ). n) l (take j ls))))

  pub next_segment : (ls : List ℕ) (i at : ℕ) (xs : List X) → at ≡ sum (take i ls) → take (get_or ls i 0) (drop (sum (take i ls)) xs) ≡ take (at + get_or ls i 0 - at) (drop at xs)
  next_segment ls i at xs e =
      let l = get_or ls i 0 in
      let n : l ≡ at + l - at = omega arith in
      ap (λ k. take l (drop k xs)) (sym e) ∙ ap (λ k. take k (drop at xs)) n

  pub cut_more : (ls : List ℕ) (i at : ℕ) (xs : List X) → i < length ls → at ≡ sum (take i ls) → cut (take (i + 1) ls) xs ≡ cut (take i ls) xs ++ take (at + get_or ls i 0 - at) (drop at xs) ∷ []
  cut_more ls i at xs h e = cut-take_more ls i xs h ∙ ap (λ s. cut (take i ls) xs ++ s ∷ []) (next_segment ls i at xs e)

  pub length_segment : (ls : List ℕ) (i at : ℕ) (xs : List X) → i < length ls → at ≡ sum (take i ls) → sum ls ≡ length xs → length (take (at + get_or ls i 0 - at) (drop at xs)) ≡ get_or ls i 0
  length_segment ls i at xs h e total =
      let within = segment_within ls i at (length xs) h e total in
      let rest = length-drop at xs in
      length-take-le (at + get_or ls i 0 - at) (drop at xs) (omega arith) ∙ omega arith

  pub cut_same : (ls : List ℕ) (n : ℕ) (xs ys : List X) → sum ls ≡ n → take n xs ≡ take n ys → cut ls xs ≡ cut ls ys
  cut_same [] n xs ys total same = refl
  cut_same (l ∷ ls) n xs ys total same =
      let parts = sum_by-cons (λ (n : ℕ). n) l ls in
      let m = sum ls in
      let whole : n ≡ l + m = omega arith in
      let first : take l xs ≡ take l ys = sym (take-take l n xs (omega arith)) ∙ ap (take l) same ∙ take-take l n ys (omega arith) in
      let rest : take m (drop l xs) ≡ take m (drop l ys) =
      sym (drop-take l m xs) ∙ ap (λ k. drop l (take k xs)) (sym whole) ∙ ap (drop l) same ∙ ap (λ k. drop l (take k ys)) whole ∙ drop-take l m ys in
      ap (λ s. s ∷ cut ls (drop l xs)) first ∙ ap (λ s. take l ys ∷ s) (cut_same ls m (drop l xs) (drop l ys) refl rest)

module _ {X Y : Type 0} (R : X → Y → Type 0) where
  pub AllZip_push : (xs : List X) (ys : List Y) (x : X) (y : Y) → AllZip R xs ys → R x y → AllZip R (xs ++ x ∷ []) (ys ++ y ∷ [])
  AllZip_push [] [] x y h r = (r, tt)
  AllZip_push [] (w ∷ ys) x y h r = absurd h
  AllZip_push (v ∷ xs) [] x y h r = absurd h
  AllZip_push (v ∷ xs) (w ∷ ys) x y h r = (h.0, AllZip_push xs ys x y h.1 r)

  pub AllZip_at : (xs : List X) (ys : List Y) (i : ℕ) (d : X) (e : Y) → AllZip R xs ys → i < length xs → R (get_or xs i d) (get_or ys i e)
  AllZip_at [] ys i d e h lt = absurd (omega arith)
  AllZip_at (v ∷ xs) [] i d e h lt = absurd h
  AllZip_at (v ∷ xs) (w ∷ ys) zero d e h lt = h.0
  AllZip_at (v ∷ xs) (w ∷ ys) (suc i) d e h lt = AllZip_at xs ys i d e h.1 (omega arith)

pub zip_push : {X Y : Type 0} (xs : List X) (ys : List Y) (x : X) (y : Y) → length xs ≡ length ys → zip (xs ++ x ∷ []) (ys ++ y ∷ []) ≡ zip xs ys ++ (x, y) ∷ []
zip_push [] [] x y h = refl
zip_push [] (w ∷ ys) x y h = absurd (omega arith)
zip_push (v ∷ xs) [] x y h = absurd (omega arith)
zip_push (v ∷ xs) (w ∷ ys) x y h = ap (λ l. (v, w) ∷ l) (zip_push xs ys x y (omega arith))

-- what holds of each segment holds of the one at a place
pub All_segment : {X : Type 0} (P : List X → Type 0) (ls : List ℕ) (i at : ℕ) (xs : List X) → All P (cut ls xs) → i < length ls → at ≡ sum (take i ls) → P (take (at + get_or ls i 0 - at) (drop at xs))
All_segment P ls i at xs h lt e =
    let long = length_cut ls xs in
    subst P (segment_at ls xs i [] lt ∙ next_segment ls i at xs e) (h i [] (omega arith))

pub All-cut_more : {X : Type 0} (P : List X → Type 0) (ls : List ℕ) (i at : ℕ) (xs : List X) → All P (cut (take i ls) xs) → i < length ls → at ≡ sum (take i ls) → P (take (at + get_or ls i 0 - at) (drop at xs)) → All P (cut (take (i + 1) ls) xs)
All-cut_more P ls i at xs h lt e one =
    let segment = take (at + get_or ls i 0 - at) (drop at xs) in
    subst (All P) (sym (cut_more ls i at xs lt e)) (All-push P (cut (take i ls) xs) segment h one)

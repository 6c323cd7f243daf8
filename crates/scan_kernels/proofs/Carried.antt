-- A scan of segments, cut at a place of a segment: `scan-run` (how it goes on within the segment), `scan-item` (the item there).
use Rattle.std.proofs.Common.{◌≡◌, ℕ, zero, suc, ◌+◌, ◌-◌, ◌*◌, ◌<◌, ◌≤◌, List, [], ◌∷◌, ◌++◌, length, take, drop, Some, refl, sym, ap, ◌∙◌, get_or, sum, slice_get, arith, ⊎_elim, add-one, set, subst}
use Rattle.std.proofs.lemmas.Bool.{cases_lt}
use Rattle.std.proofs.lemmas.Nat.{mul-le}
use native.Mathlib.Nat.{suc-mul}
use Rattle.std.specs.List.{fold}
use Rattle.std.proofs.lemmas.List.{take-append-drop, drop_more, drop-drop, drop-take, take-take, take_all, append-nil, take-append-le, drop-append-le, length-take-le, length-drop, get_or-set_same, get_or-set_other}
use Rattle.std.proofs.Math.Seq.{drop-append-add, drop-append_seam, take-add, take-append_seam}
use Rattle.std.proofs.lemmas.List.Sums.{sum_by-take-drop, fold-append}
use Rattle.scan_kernels.specs.Edges.{FitsScan, LiesIn}
use Rattle.scan_kernels.specs.Segmented.{scanned, segmented_scan}
use Rattle.scan_kernels.proofs.CutLists.{segmented_scan-lengths-append}
use Rattle.scan_kernels.proofs.NextSegment.{segment_within}
use Rattle.scan_kernels.proofs.ResultLengths.{length-segmented_scan}
use Rattle.scan_kernels.proofs.Scanned.{scanned-append, length-scanned}

-- a place within the list lies before the end of some segment
pub segment_within_list : (ls : List ℕ) (number begin place : ℕ) → begin ≡ sum (take number ls) → begin ≤ place → place < sum ls → number < length ls
segment_within_list ls number begin place e h within =
    ⊎_elim (λ lt. lt) (λ ge. let all = ap sum (take_all number ls ge) in absurd (omega arith)) (cases_lt number (length ls))

-- a chunk that begins behind a place is not the first
pub later_chunk : (b k size : ℕ) → b < k * size → 0 < k
later_chunk b zero size h = absurd (omega arith)
later_chunk b (suc k) size h = omega arith

module _ {X : Type 0} where
  -- items of a segment, from a place in it on
  pub part-of_take : (j l r : ℕ) (zs : List X) → j + r ≤ l → take r (drop j (take l zs)) ≡ take r (drop j zs)
  part-of_take j l r zs h =
      let more : l ≡ j + (l - j) = omega arith in
      ap (λ n. take r (drop j (take n zs))) more ∙ ap (take r) (drop-take j (l - j) zs) ∙ take-take r (l - j) (drop j zs) (omega arith)

  first_at : (ys : List X) (p : ℕ) (x : X) → take 1 (drop p ys) ≡ x ∷ [] → slice_get ys p ≡ Some x
  first_at [] zero x h = absurd (cc)
  first_at [] (suc p) x h = absurd (cc)
  first_at (y ∷ ys) zero x h = cc
  first_at (y ∷ ys) (suc p) x h = first_at ys p x h

module _ {X : Type 0} (op : X → X → X) where
  -- the first items of a scan are the scan of the first items
  take-scanned : (a : X) (r : ℕ) (ys : List X) → r ≤ length ys → take r (scanned op a ys) ≡ scanned op a (take r ys)
  take-scanned a r ys h =
      let front = take r ys in
      let later = scanned op (fold op a front) (drop r ys) in
      let long : length (scanned op a front) ≡ r = length-scanned op a front ∙ length-take-le r ys h in
      ap (λ zs. take r (scanned op a zs)) (sym (take-append-drop r ys))
      ∙ ap (take r) (scanned-append op a front (drop r ys))
      ∙ ap (λ n. take n (scanned op a front ++ later)) (sym long)
      ∙ take-append_seam (scanned op a front) later

  -- the later items go on from what the earlier ones come to
  drop-scanned : (a : X) (r : ℕ) (ys : List X) → r ≤ length ys → drop r (scanned op a ys) ≡ scanned op (fold op a (take r ys)) (drop r ys)
  drop-scanned a r ys h =
      let front = take r ys in
      let later = scanned op (fold op a front) (drop r ys) in
      let long : length (scanned op a front) ≡ r = length-scanned op a front ∙ length-take-le r ys h in
      ap (λ zs. drop r (scanned op a zs)) (sym (take-append-drop r ys))
      ∙ ap (drop r) (scanned-append op a front (drop r ys))
      ∙ ap (λ n. drop n (scanned op a front ++ later)) (sym long)
      ∙ drop-append_seam (scanned op a front) later

  -- a part of a scan goes on from what the items before it come to
  pub scanned-part : (a : X) (start r : ℕ) (xs : List X) → start + r ≤ length xs
      → scanned op (fold op a (take start xs)) (take r (drop start xs)) ≡ take r (drop start (scanned op a xs))
  scanned-part a start r xs h =
      let first = fold op a (take start xs) in
      sym (take-scanned first r (drop start xs) (omega (arith, length-drop start xs)))
      ∙ ap (take r) (sym (drop-scanned a start xs (omega arith)))

  scanned_one : (a : X) (ys : List X) → length ys ≡ 1 → scanned op a ys ≡ a ∷ []
  scanned_one a [] h = absurd (omega arith)
  scanned_one a (y ∷ []) h = refl
  scanned_one a (y ∷ z ∷ ys) h = absurd (omega arith)

module _ {X : Type 0} (op : X → X → X) (u : X) (ls : List ℕ) (xs : List X) where
  -- the scan is that of the segments before one, of that one, and of the later ones
  scan-segment : (n b : ℕ) → n < length ls → b ≡ sum (take n ls)
      → segmented_scan op u ls xs
      ≡ segmented_scan op u (take n ls) xs ++ (scanned op u (take (get_or ls n 0) (drop b xs)) ++ segmented_scan op u (drop (n + 1) ls) (drop (get_or ls n 0) (drop b xs)))
  scan-segment n b h e =
      let before = segmented_scan op u (take n ls) xs in
      ap (λ l. segmented_scan op u l xs) (sym (take-append-drop n ls))
      ∙ segmented_scan-lengths-append op u (take n ls) (drop n ls) xs
      ∙ ap (λ l. before ++ segmented_scan op u l (drop (sum (take n ls)) xs)) (drop_more ls n 0 h)
      ∙ ap (λ k. before ++ segmented_scan op u (get_or ls n 0 ∷ drop (n + 1) ls) (drop k xs)) (sym e)

  -- how the scan goes on within a segment
  pub scan-run : (n b p r : ℕ) → sum ls ≡ length xs → n < length ls → b ≡ sum (take n ls) → b ≤ p → p + r ≤ b + get_or ls n 0
      → take r (drop p (segmented_scan op u ls xs)) ≡ scanned op (fold op u (take (p - b) (drop b xs))) (take r (drop p xs))
  scan-run n b p r total h e behind within =
      let l = get_or ls n 0 in
      let j = p - b in
      let zs = drop b xs in
      let segment = take l zs in
      let before = segmented_scan op u (take n ls) xs in
      let later = segmented_scan op u (drop (n + 1) ls) (drop l zs) in
      let parts = sum_by-take-drop (λ (k : ℕ). k) ls n in
      let front : length before ≡ b = length-segmented_scan op u (take n ls) xs (omega arith) ∙ sym e in
      let inside = segment_within ls n b (length xs) h e total in
      let rest = length-drop b xs in
      let long : length segment ≡ l = length-take-le l zs (omega arith) in
      let many = length-scanned op u segment in
      let size : length (scanned op u segment) ≡ l = many ∙ long in
      let place : p ≡ length before + j = omega arith in
      let on : length (drop j (scanned op u segment)) ≡ l - j = length-drop j (scanned op u segment) ∙ ap (λ k. k - j) size in
      ap (λ s. take r (drop p s)) (scan-segment n b h e)
      ∙ ap (λ k. take r (drop k (before ++ (scanned op u segment ++ later)))) place
      ∙ ap (take r) (drop-append-add before (scanned op u segment ++ later) j)
      ∙ ap (take r) (drop-append-le j (scanned op u segment) later (omega arith))
      ∙ take-append-le r (drop j (scanned op u segment)) later (omega arith)
      ∙ ap (take r) (drop-scanned op u j segment (omega arith))
      ∙ take-scanned op (fold op u (take j segment)) r (drop j segment) (omega (arith, length-drop j segment))
      ∙ ap (λ ys. scanned op (fold op u ys) (take r (drop j segment))) (take-take j l zs (omega arith))
      ∙ ap (scanned op (fold op u (take j zs))) (part-of_take j l r zs (omega arith) ∙ ap (take r) (drop-drop j b xs ∙ ap (λ k. drop k xs) (omega arith)))

  -- the item at a place of a segment is what the earlier items of the segment come to
  pub scan-item : (n b p : ℕ) → sum ls ≡ length xs → LiesIn ls p n b → slice_get (segmented_scan op u ls xs) p ≡ Some (fold op u (take (p - b) (drop b xs)))
  scan-item n b p total at =
      let a = fold op u (take (p - b) (drop b xs)) in
      let inside = segment_within ls n b (length xs) at.number_is at.begin_is total in
      let rest = length-drop p xs in
      let long : length (take 1 (drop p xs)) ≡ 1 = length-take-le 1 (drop p xs) (omega (arith, at.before_end)) in
      first_at (segmented_scan op u ls xs) p a (scan-run n b p 1 total at.number_is at.begin_is at.behind_begin (omega (arith, at.before_end)) ∙ scanned_one op a (take 1 (drop p xs)) long)

pub next_place : (k size : ℕ) → (k + 1) * size ≡ k * size + size
next_place k size = ap (λ n. n * size) (add-one k) ∙ suc-mul k size

-- one more item of a list is written
pub below_set : {X : Type 0} (P : ℕ → X → Type 0) (xs : List X) (k : ℕ) (x : X) → k < length xs
    → ((j : ℕ) (d : X) → j < k → P j (get_or xs j d)) → P k x → (j : ℕ) (d : X) → j < k + 1 → P j (get_or (set xs k x) j d)
below_set P xs k x within below here j d h =
    ⊎_elim
    (λ lt. subst (P j) (sym (get_or-set_other xs k j x d (omega arith))) (below j d lt))
    (λ ge. let same : j ≡ k = omega arith in subst (λ i. P i (get_or (set xs k x) i d)) (sym same) (subst (P k) (sym (get_or-set_same xs k x d within)) here))
    (cases_lt j k)

module _ {X : Type 0} (op : X → X → X) (u : X) where
  -- what the items between two places come to goes on from what those before a place between come to
  pub fold-on : (b e p : ℕ) (xs : List X) → b ≤ e → e ≤ p
      → fold op u (take (p - b) (drop b xs)) ≡ fold op (fold op u (take (e - b) (drop b xs))) (take (p - e) (drop e xs))
  fold-on b e p xs h k =
      let front = take (e - b) (drop b xs) in
      let parts : p - b ≡ (e - b) + (p - e) = omega arith in
      let place : b + (e - b) ≡ e = omega arith in
      ap (λ n. fold op u (take n (drop b xs))) parts
      ∙ ap (fold op u) (take-add (e - b) (p - e) (drop b xs))
      ∙ fold-append op u front (take (p - e) (drop (e - b) (drop b xs)))
      ∙ ap (λ ys. fold op (fold op u front) (take (p - e) ys)) (drop-drop (e - b) b xs ∙ ap (λ n. drop n xs) place)

  -- a scan of segments that have all the items has as many
  pub scan_long : (ls : List ℕ) (xs : List X) → sum ls ≡ length xs → length (segmented_scan op u ls xs) ≡ length xs
  scan_long ls xs total = length-segmented_scan op u ls xs (omega arith) ∙ total

  -- and so has the scan of all items
  pub prefixes_long : (xs : List X) → length (scanned op u xs) ≡ length xs
  prefixes_long xs = length-scanned op u xs

  -- where one chunk has all the items, nothing is carried
  pub fits_in_one_chunk : (ls : List ℕ) (xs carries : List X) (size : ℕ) → sum ls ≡ length xs → length xs < size → FitsScan op u ls xs carries size
  fits_in_one_chunk ls xs carries size total h =
      let long = scan_long ls xs total in (
        omega arith,
        total,
        record {
          item = λ k later within. let far = mul-le 1 size k size later (omega arith) in absurd (omega arith);
        },
      )

  -- the scan of one segment that has all the items
  pub scan_of_one : (xs : List X) → segmented_scan op u (length xs ∷ []) xs ≡ scanned op u xs
  scan_of_one xs = append-nil (scanned op u (take (length xs) xs)) ∙ ap (scanned op u) (take_all (length xs) xs (omega arith))

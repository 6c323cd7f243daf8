-- What is carried into each chunk of a scan: `carries_are`, where the operation is associative and has a unit on the items.
use Rattle.std.proofs.Common.{◌≡◌, ℕ, zero, suc, ◌+◌, ◌-◌, ◌*◌, ◌<◌, ◌≤◌, Bool, true, false, List, [], ◌∷◌, length, take, drop, Some, refl, sym, ap, ◌∙◌, get_or, sum, slice_get, All, arith, add-one}
use Rattle.std.specs.List.{fold}
use Rattle.std.proofs.lemmas.Bool.{ltb-true, ltb-false}
use Rattle.std.proofs.Math.ListN.{get_or-append}
use Rattle.std.proofs.lemmas.List.Elements.{All-take, All-drop}
use Rattle.std.proofs.lemmas.List.Sums.{sum_by-cons}
use Rattle.std.proofs.lemmas.Option.{slice_get-get_or, get_or_from_slice_get}
use borrow.Rule.Slice.PartMut.{put_mid}
use Rattle.scan_kernels.specs.Edges.{AreCarries, AreEdges, CarriesOn, IsEdge, carried_over}
use Rattle.scan_kernels.specs.Pairs.{join_pairs}
use Rattle.scan_kernels.specs.Segmented.{segmented_scan}
use Rattle.scan_kernels.specs.declared.edges.Edge.{Edge}
use Rattle.scan_kernels.proofs.Carried.{fold-on, next_place, scan-item, scan_long}

module _ {X : Type 0} where
  some-same : {x y : X} → Some x ≡ Some y → x ≡ y
  some-same h = cc

  -- a list that is written behind its first item
  pub put_behind_first : (cs ys : List X) (m k : ℕ) (d : X) → 0 < length cs → k < length ys → get_or (put_mid 1 m cs ys) (k + 1) d ≡ get_or ys k d
  put_behind_first [] ys m k d h below = absurd (omega arith)
  put_behind_first (c ∷ cs) ys m k d h below = rw (add-one k) (get_or-append ys (drop m cs) d k below)

  pub first_stays : (cs ys : List X) (m : ℕ) → 0 < length cs → slice_get (put_mid 1 m cs ys) 0 ≡ slice_get cs 0
  first_stays [] ys m h = absurd (omega arith)
  first_stays (c ∷ cs) ys m h = refl

module _ {X : Type 0} (op : X → X → X) (u : X) where
  -- a scan begins with the unit
  scan-first : (ls : List ℕ) (xs : List X) → sum ls ≡ length xs → 0 < length xs → slice_get (segmented_scan op u ls xs) 0 ≡ Some u
  scan-first [] xs total h = absurd (omega arith)
  scan-first (zero ∷ ls) xs total h = let later = sum_by-cons (λ (n : ℕ). n) 0 ls in scan-first ls xs (omega arith) h
  scan-first (suc l ∷ ls) [] total h = absurd (omega arith)
  scan-first (suc l ∷ ls) (x ∷ xs) total h = refl

module _ {X : Type 0} (op : X → X → X) (u : X) (P : X → Type 0) (P-unit : P u) (P-op : (x y : X) → P x → P y → P (op x y))
    (assoc : (x y z : X) → P x → P y → P z → op (op x y) z ≡ op x (op y z)) (right : (x : X) → P x → op x u ≡ x) where
  pub P-fold : (a : X) (xs : List X) → P a → All P xs → P (fold op a xs)
  P-fold a [] pa all = pa
  P-fold a (x ∷ xs) pa all = P-fold (op a x) xs (P-op a x pa (all 0 x (omega arith))) (λ i d h. all (suc i) d (omega arith))

  fold-parts : (c a : X) (xs : List X) → P c → P a → All P xs → fold op (op c a) xs ≡ op c (fold op a xs)
  fold-parts c a [] pc pa all = refl
  fold-parts c a (x ∷ xs) pc pa all =
      let px = all 0 x (omega arith) in
      ap (λ v. fold op v xs) (assoc c a x pc pa px) ∙ fold-parts c (op a x) xs pc (P-op a x pa px) (λ i d h. all (suc i) d (omega arith))

  -- what items come to behind a first one is what they come to by themselves, behind that one
  pub fold-from : (c : X) (xs : List X) → P c → All P xs → fold op c xs ≡ op c (fold op u xs)
  fold-from c xs pc all = ap (λ v. fold op v xs) (sym (right c pc)) ∙ fold-parts c u xs pc P-unit all

  module _ (ls : List ℕ) (xs : List X) (size : ℕ) (all : All P xs) (total : sum ls ≡ length xs) where
    -- what is carried over an edge, from what is carried into the chunk before it
    over_edge : (k : ℕ) (e : Edge) (began : Bool) (c : X) → IsEdge ls size k e → e.began ≡ began → slice_get (segmented_scan op u ls xs) (k * size) ≡ Some c
        → slice_get (segmented_scan op u ls xs) e.place ≡ Some ((join_pairs op (false, c) (began, carried_over op u xs e)).1)
    over_edge k e true c is began before =
        let far = ltb-true (k * size) e.begin (sym is.began_is ∙ began) in
        let from : e.from ≡ e.begin = omega (arith, is.from_is) in
        scan-item op u ls xs e.number e.begin e.place total is.segment
        ∙ ap (λ b. Some (fold op u (take (e.place - b) (drop b xs)))) (sym from)
    over_edge k e false c is began before =
        let start = k * size in
        let near = ltb-false start e.begin (sym is.began_is ∙ began) in
        let from : start ≡ e.from = omega (arith, is.from_is) in
        let later : start ≤ e.place = omega (arith, is.place_is, next_place k size) in
        let earlier = take (start - e.begin) (drop e.begin xs) in
        let items = take (e.place - start) (drop start xs) in
        let here = scan-item op u ls xs e.number e.begin start total (record { number_is = is.segment.number_is; begin_is = is.segment.begin_is; behind_begin = near; before_end = omega (arith, is.segment.before_end) }) in
        let value : fold op u earlier ≡ c = some-same (sym here ∙ before) in
        let known = P-fold u earlier P-unit (All-take P (start - e.begin) (drop e.begin xs) (All-drop P e.begin xs all)) in
        let parts = fold-from (fold op u earlier) items known (All-take P (e.place - start) (drop start xs) (All-drop P start xs all)) in
        scan-item op u ls xs e.number e.begin e.place total is.segment
        ∙ ap Some (fold-on op u e.begin start e.place xs near later ∙ parts ∙ ap (λ v. op v (fold op u items)) value ∙ ap (λ s. op c (fold op u (take (e.place - s) (drop s xs)))) from)

    module _ (es : List Edge) (old new : List X) (edges : AreEdges ls size es) (long : length new ≡ length es + 1) (first : slice_get new 0 ≡ Some u)
        (sums : (k : ℕ) (e : Edge) (d : X) → k < length es → get_or old (k + 1) d ≡ carried_over op u xs (get_or es k e)) (next : CarriesOn op es old new) where
      carried_into : (k : ℕ) → k < length es + 1 → 0 < length xs → slice_get (segmented_scan op u ls xs) (k * size) ≡ Some (get_or new k u)
      carried_into zero h some =
          let start : zero * size ≡ 0 = omega arith in
          ap (slice_get (segmented_scan op u ls xs)) start ∙ scan-first op u ls xs total some ∙ ap Some (sym (get_or_from_slice_get new 0 u u first))
      carried_into (suc k) h some =
          let scan = segmented_scan op u ls xs in
          let c = get_or new k u in
          let none : Edge = record { place = 0; number = 0; begin = 0; from = 0; began = false } in
          let e = get_or es k none in
          let is = edges k none (omega arith) in
          let more : suc k ≡ k + 1 = sym (add-one k) in
          let place : suc k * size ≡ e.place = ap (λ n. n * size) more ∙ sym is.place_is in
          ap (slice_get scan) place
          ∙ over_edge k e e.began c is refl (carried_into k (omega arith) some)
          ∙ ap (λ v. Some ((join_pairs op (false, c) (e.began, v)).1)) (sym (sums k none u (omega arith)))
          ∙ ap Some (sym (next k none u (omega arith)))
          ∙ ap (λ n. Some (get_or new n u)) (sym more)

      pub carries_are : ((k : ℕ) → k * size < length xs → k < length es + 1) → AreCarries size (segmented_scan op u ls xs) new
      carries_are within = record {
        item = λ k later h.
            let many = scan_long op u ls xs total in
            let there = within k (omega arith) in
            slice_get-get_or new k u (omega arith) ∙ sym (carried_into k there (omega arith));
      }

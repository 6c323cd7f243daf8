-- What segments that have all the items come to, one after another: `fold-segments`.
use Rattle.std.proofs.Common.{◌≡◌, ℕ, List, [], ◌∷◌, length, take, drop, refl, sym, ap, ◌∙◌, sum, All, arith}
use Rattle.std.specs.List.{fold}
use Rattle.std.proofs.lemmas.List.{length-drop, take-append-drop}
use Rattle.std.proofs.lemmas.List.Elements.{All-take, All-drop}
use Rattle.std.proofs.lemmas.List.Sums.{fold-append, sum_by-cons}
use Rattle.scan_kernels.specs.Segmented.{segmented_reduce}
use Rattle.scan_kernels.proofs.CarriedOn.{P-fold, fold-from}

module _ {X : Type 0} (op : X → X → X) (u : X) (P : X → Type 0) (P-unit : P u) (P-op : (x y : X) → P x → P y → P (op x y))
    (assoc : (x y z : X) → P x → P y → P z → op (op x y) z ≡ op x (op y z)) (right : (x : X) → P x → op x u ≡ x) where
  from-segments : (c : X) (ls : List ℕ) (xs : List X) → P c → All P xs → sum ls ≡ length xs → fold op c (segmented_reduce op u ls xs) ≡ fold op c xs
  from-segments c [] [] pc all total = refl
  from-segments c [] (x ∷ xs) pc all total = absurd (omega arith)
  from-segments c (l ∷ ls) xs pc all total =
      let more = sum_by-cons (λ (n : ℕ). n) l ls in
      let rest = length-drop l xs in
      let front = All-take P l xs all in
      let here = sym (fold-from op u P P-unit P-op assoc right c (take l xs) pc front) in
      let known = P-op c (fold op u (take l xs)) pc (P-fold op u P P-unit P-op assoc right u (take l xs) P-unit front) in
      from-segments (op c (fold op u (take l xs))) ls (drop l xs) known (All-drop P l xs all) (omega arith)
      ∙ ap (λ v. fold op v (drop l xs)) here
      ∙ sym (fold-append op c (take l xs) (drop l xs))
      ∙ ap (fold op c) (take-append-drop l xs)

  -- the reduction of the reductions of segments that have all the items is that of the items
  pub fold-segments : (ls : List ℕ) (xs : List X) → All P xs → sum ls ≡ length xs → fold op u (segmented_reduce op u ls xs) ≡ fold op u xs
  fold-segments ls xs all total = from-segments u ls xs P-unit all total

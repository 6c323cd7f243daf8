-- Pieces of a list of which each is put behind the others while the next is written: `length-piece`, `piece_put`.
use Rattle.std.proofs.Common.{arith, ◌≡◌, ◌∙◌, ℕ, ◌+◌, ◌-◌, ◌≤◌, List, ◌++◌, length, take, drop, sym, ap}
use Rattle.std.proofs.lemmas.List.{length-take, length-drop, take_at}
use Rattle.std.proofs.Math.Seq.{take-add}

module _ {X : Type 0} (xs : List X) (start end : ℕ) (ordered : start ≤ end) (within : end ≤ length xs) where
  -- a piece has as many items as it is to have
  pub length-piece : (part : List X) (n : ℕ) → n ≡ end - start → part ≡ take n (drop start xs) → length part ≡ end - start
  length-piece part n is e =
      let long = ap length e in
      let most = length-take n (drop start xs) in
      let rest = length-drop start xs in
      omega arith

  -- what was put and the piece that is held are the first items
  pub piece_put : (before made held part rest : List X) (n : ℕ) → before ++ held ≡ take start xs → made ≡ before ++ held → n ≡ end - start
      → part ≡ take n (drop start xs) → made ++ take (end - start) (part ++ rest) ≡ take end xs
  piece_put before made held part rest n so_far put is e =
      let all : start + n ≡ end = omega arith in
      ap (λ l. made ++ l) (take_at part rest (end - start) (length-piece part n is e) ∙ e)
      ∙ ap (λ l. l ++ take n (drop start xs)) (put ∙ so_far)
      ∙ sym (take-add start n xs)
      ∙ ap (λ m. take m xs) all

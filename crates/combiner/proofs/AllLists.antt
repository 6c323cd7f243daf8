-- Lists of which all is true, as tests part them.
-- `all_rest` leaves out the first, `all_split` the last, and `all_push` puts one more behind them.
use Rattle.std.proofs.Common.{zero, suc, List, [], ◌∷◌, ◌++◌, arith}
use Rattle.std.specs.Prelude.{All}

module _ {A : Type 0} (P : A → Type 0) where
  all_cons : (y : A) (xs : List A) → P y → All P xs → All P (y ∷ xs)
  all_cons y xs first all zero d lt = first
  all_cons y xs first all (suc k) d lt = all k d (omega arith)

  pub all_rest : (y : A) (xs : List A) → All P (y ∷ xs) → All P xs
  all_rest y xs all k d lt = all (suc k) d (omega arith)

  pub all_split : (xs : List A) (x : A) → All P (xs ++ x ∷ []) → All P xs × P x
  all_split [] x all = ((λ k d lt. absurd (omega arith)), all 0 x (omega arith))
  all_split (y ∷ xs) x all =
      let more = all_split xs x (λ k d lt. all (suc k) d (omega arith)) in
      (all_cons y xs (all 0 y (omega arith)) more.0, more.1)

  pub all_push : (xs : List A) (x : A) → All P xs → P x → All P (xs ++ x ∷ [])
  all_push [] x all one zero d lt = one
  all_push [] x all one (suc k) d lt = absurd (omega arith)
  all_push (y ∷ xs) x all one zero d lt = all 0 d (omega arith)
  all_push (y ∷ xs) x all one (suc k) d lt = all_push xs x (λ j e within. all (suc j) e (omega arith)) one k d (omega arith)

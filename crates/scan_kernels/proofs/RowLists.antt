-- Lists that were made of rows, over vectors of their own: `made_all` and `exact_all`, that they are as long as before, `long_all`, and one
-- row more, `rows_next`.
use Rattle.std.proofs.Common.{arith, rules, ◌≡◌, ◌∙◌, ℕ, ◌+◌, ◌<◌, List, [], ◌∷◌, ◌++◌, Vec, Global, length, map, take, get_or, suc, refl, subst, sym, ap, All, vec_len}
use Rattle.std.proofs.lemmas.List.{map_more, map_push}
use Rattle.std.proofs.Math.Seq.{take-append_seam}
use Rattle.segment_desc.specs.Appended.{IsExact}
use Rattle.scan_kernels.specs.RowLists.{AreAsLong, AreMade}

-- one row more, of the next part
pub rows_next : {R P Y : Type 0} (f : R → Y) (h : P → Y) (rows new : List R) (parts : List P) (i : ℕ) (r : R) (p : P) → new ≡ rows ++ r ∷ [] → i < length parts
    → p ≡ get_or parts i p → f r ≡ h p → map f rows ≡ map h (take i parts) → map f new ≡ map h (take (i + 1) parts)
rows_next f h rows new parts i r p is within there same before =
    ap (map f) is ∙ map_push f rows r ∙ ap (λ l. l ++ f r ∷ []) before
    ∙ ap (λ y. map h (take i parts) ++ y ∷ []) (same ∙ ap h there) ∙ sym (map_more h parts i p within)

module _ {R X : Type 0} (f : R → List X) where
  made_each : (rows : List R) (new : List (Vec X Global)) → length new ≡ length rows
      → ((k : ℕ) (r : R) (v : Vec X Global) → k < length new → (get_or new k v).items ≡ f (get_or rows k r)) → map (λ v. v.items) new ≡ map f rows
  made_each [] [] count same = refl
  made_each [] (w ∷ new) count same = absurd (omega arith)
  made_each (r ∷ rows) [] count same = absurd (omega arith)
  made_each (r ∷ rows) (w ∷ new) count same =
      ap (λ y. y ∷ map (λ v. v.items) new) (same 0 r w (omega arith))
      ∙ ap (λ l. f r ∷ l) (made_each rows new (omega arith) (λ k r v h. same (suc k) r v (omega arith)))

  whole : (new rest : List (Vec X Global)) (n : ℕ) → n ≡ length new → take n (new ++ rest) ≡ new
  whole new rest n all = ap (λ k. take k (new ++ rest)) all ∙ take-append_seam new rest

  -- all vectors have become their rows
  pub made_all : (rows : List R) (old new rest : List (Vec X Global)) (n : ℕ) → n ≡ length old → length old ≡ length rows → AreMade f rows 0 old new
      → map (λ v. v.items) (take n (new ++ rest)) ≡ map f rows
  made_all rows old new rest n all same made =
      let count = made.count in
      ap (map (λ v. v.items)) (whole new rest n (omega arith))
      ∙ made_each rows new (omega arith) (λ k r v h.
      let first : 0 + k ≡ k = omega arith in
      made.items k r v (omega arith) ∙ ap (λ j. f (get_or rows j r)) first)

  exact_each : (rows : List R) (old new : List (Vec X Global)) → AreAsLong f rows 0 old → AreMade f rows 0 old new → All IsExact old → All IsExact new
  exact_each [] old new long made exact k d h =
      let count = made.count in
      let few = long.within in
      absurd (omega arith)
  exact_each (r ∷ rows) old new long made exact k d h =
      let count = made.count in
      let within : k < length old = omega arith in
      let was = exact k d within in
      let space = made.space k d within in
      let as_long = long.long k r d within in
      let same = ap length (made.items k r d within) in
      let before : vec_len (get_or old k d) ≡ length (get_or old k d).items = search rules in
      let after : vec_len (get_or new k d) ≡ length (get_or new k d).items = search rules in
      space ∙ was ∙ before ∙ as_long ∙ sym same ∙ sym after

  -- and none has room to spare
  pub exact_all : (rows : List R) (old new rest : List (Vec X Global)) (n : ℕ) → n ≡ length old → AreAsLong f rows 0 old → AreMade f rows 0 old new → All IsExact old
      → All IsExact (take n (new ++ rest))
  exact_all rows old new rest n all long made exact =
      let count = made.count in
      subst (All IsExact) (sym (whole new rest n (omega arith))) (exact_each rows old new long made exact)

  long_each : (rows : List R) (old : List (Vec X Global)) → length old ≡ length rows
      → ((k : ℕ) (r : R) (v : Vec X Global) → k < length old → length (get_or old k v).items ≡ length (f (get_or rows k r))) → map (λ v. length v.items) old ≡ map (λ r. length (f r)) rows
  long_each [] [] count same = refl
  long_each [] (w ∷ old) count same = absurd (omega arith)
  long_each (r ∷ rows) [] count same = absurd (omega arith)
  long_each (r ∷ rows) (w ∷ old) count same =
      ap (λ n. n ∷ map (λ v. length v.items) old) (same 0 r w (omega arith))
      ∙ ap (λ l. length (f r) ∷ l) (long_each rows old (omega arith) (λ k r v h. same (suc k) r v (omega arith)))

  lengths : (rows : List R) (new : List (Vec X Global)) → map (λ v. v.items) new ≡ map f rows → map (λ v. length v.items) new ≡ map (λ r. length (f r)) rows
  lengths [] [] same = refl
  lengths [] (w ∷ new) same = absurd cc
  lengths (r ∷ rows) [] same = absurd cc
  lengths (r ∷ rows) (w ∷ new) same =
      let first : w.items ≡ f r = cc in
      let rest : map (λ v. v.items) new ≡ map f rows = cc in
      ap (λ l. length l ∷ map (λ v. length v.items) new) first ∙ ap (λ l. length (f r) ∷ l) (lengths rows new rest)

  -- vectors that have become their rows are as long as before
  pub long_all : (rows : List R) (old new : List (Vec X Global)) → length old ≡ length rows → AreAsLong f rows 0 old → map (λ v. v.items) new ≡ map f rows
      → map (λ v. length v.items) new ≡ map (λ v. length v.items) old
  long_all rows old new count long made =
      lengths rows new made
      ∙ sym (long_each rows old count (λ k r v h.
      let first : 0 + k ≡ k = omega arith in
      long.long k r v h ∙ ap (λ j. length (f (get_or rows j r))) first))

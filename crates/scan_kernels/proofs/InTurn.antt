-- Two parts of a list, one behind the other, each written by itself: `written_both`, and of lists over vectors of their own
-- `first_long`, `others_long`, `made_both`.
use Rattle.std.proofs.Common.{arith, ◌≡◌, ◌∙◌, ℕ, ◌+◌, ◌-◌, List, ◌++◌, Vec, Global, length, take, drop, sym, ap, slice_index_or, vec_capacity, length-append, inl, inr}
use Rattle.std.proofs.lemmas.List.{get_or_append_left, get_or-append_right, drop-drop}
use Rattle.std.proofs.lemmas.Bool.{cases_lt}
use Rattle.std.proofs.Math.Seq.{take-add}
use Rattle.scan_kernels.specs.RowLists.{AreAsLong, AreMade}

-- as much of a list as both parts have
pub written_both : {X : Type 0} (xs old first rest one others : List X) (start size : ℕ) → old ≡ first ++ rest → length first ≡ size
    → one ≡ take (length first) (drop start xs) → others ≡ take (length rest) (drop (start + size) xs) → one ++ others ≡ take (length old) (drop start xs)
written_both xs old first rest one others start size is long a b =
    let all : length old ≡ length first + length rest = ap length is ∙ length-append first rest in
    let behind : drop (start + size) xs ≡ drop (length first) (drop start xs) = ap (λ n. drop (start + n) xs) (sym long) ∙ sym (drop-drop (length first) start xs) in
    ap (λ l. l ++ others) a
    ∙ ap (λ l. take (length first) (drop start xs) ++ l) (b ∙ ap (take (length rest)) behind)
    ∙ sym (take-add (length first) (length rest) (drop start xs))
    ∙ ap (λ n. take n (drop start xs)) (sym all)

module _ {R X : Type 0} (f : R → List X) (rows : List R) (start : ℕ) where
  -- the first vectors are as long as their rows
  pub first_long : (lists first rest : List (Vec X Global)) → lists ≡ first ++ rest → AreAsLong f rows start lists → AreAsLong f rows start first
  first_long lists first rest is long =
      let within = long.within in
      let all : length lists ≡ length first + length rest = ap length is ∙ length-append first rest in
      record {
        within = omega arith;
        long = λ k r v h. ap (λ w. length w.items) (sym (get_or_append_left first rest v k h) ∙ sym (ap (λ l. slice_index_or l k v) is)) ∙ long.long k r v (omega arith);
      }

  -- and those behind them are
  pub others_long : (lists first rest : List (Vec X Global)) (size : ℕ) → lists ≡ first ++ rest → length first ≡ size → AreAsLong f rows start lists
      → AreAsLong f rows (start + size) rest
  others_long lists first rest size is here long =
      let within = long.within in
      let all : length lists ≡ length first + length rest = ap length is ∙ length-append first rest in
      record {
        within = omega arith;
        long = λ k r v h.
            let place : size + k - size ≡ k = omega arith in
            let row : start + (size + k) ≡ start + size + k = omega arith in
            let same = get_or-append_right first rest size (size + k) v here (omega arith) ∙ ap (λ n. slice_index_or rest n v) place in
            ap (λ w. length w.items) (sym same ∙ sym (ap (λ l. slice_index_or l (size + k) v) is)) ∙ long.long (size + k) r v (omega arith)
            ∙ ap (λ n. length (f (slice_index_or rows n r))) row;
      }

  -- all vectors have become their rows
  pub made_both : (lists first rest one others : List (Vec X Global)) (size : ℕ) → lists ≡ first ++ rest → length first ≡ size → AreMade f rows start first one
      → AreMade f rows (start + size) rest others → AreMade f rows start lists (one ++ others)
  made_both lists first rest one others size is here a b =
      let count = a.count in
      let more = b.count in
      let long : length one ≡ size = omega arith in
      let all : length lists ≡ length first + length rest = ap length is ∙ length-append first rest in
      let both : length (one ++ others) ≡ length one + length others = length-append one others in
      record {
        count = omega arith;
        items = λ k r v h. elim (cases_lt k size) [
          | inl low ↦ ap (λ w. w.items) (get_or_append_left one others v k (omega arith)) ∙ a.items k r v (omega arith)
          | inr high ↦
              let place : start + size + (k - size) ≡ start + k = omega arith in
              ap (λ w. w.items) (get_or-append_right one others size k v long high) ∙ b.items (k - size) r v (omega arith)
              ∙ ap (λ n. f (slice_index_or rows n r)) place
        ];
        space = λ k v h. elim (cases_lt k size) [
          | inl low ↦ ap vec_capacity (get_or_append_left one others v k (omega arith)) ∙ a.space k v (omega arith)
              ∙ ap vec_capacity (sym (get_or_append_left first rest v k (omega arith)) ∙ sym (ap (λ l. slice_index_or l k v) is))
          | inr high ↦ ap vec_capacity (get_or-append_right one others size k v long high) ∙ b.space (k - size) v (omega arith)
              ∙ ap vec_capacity (sym (get_or-append_right first rest size k v here high) ∙ sym (ap (λ l. slice_index_or l k v) is))
        ];
      }

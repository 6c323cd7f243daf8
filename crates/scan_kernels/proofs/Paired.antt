-- Lists that are paired place by place, one more place at a time: `distributed_more`, `segmented_index_more`, and
-- `indexed_push` (one more item of a segment), `indexed_at` (the item at a place); in two parts: `distributed-lengths-append`,
-- `segmented_index-lengths-append`; over segments of one item each: `distributed-ones`, `segmented_index-ones`.
use Rattle.std.proofs.Common.{◌≡◌, ℕ, zero, suc, ◌+◌, ◌<◌, ◌≤◌, List, [], ◌∷◌, ◌++◌, length, take, drop, map, replicate, ℤ, pos, refl, sym, ap, ◌∙◌, get_or, All, Some, arith, zero-add, append_assoc}
use Rattle.std.specs.List.{zip, flat_map, range_with_len, slice_get}
use Rattle.std.proofs.lemmas.List.{take_more, take_all, append-nil}
use Rattle.std.proofs.lemmas.List.Concat.{flat_map-append}
use Rattle.std.proofs.lemmas.List.FromFn.{get_or-map-range_with_len, length-map-range_with_len, map-range_with_len_more}
use Rattle.std.proofs.lemmas.Option.{slice_get-get_or}
use Rattle.std.proofs.lemmas.Slice.Zip.{length-zip, get_or-zip}
use Rattle.scan_kernels.specs.Distributed.{distributed}
use Rattle.scan_kernels.specs.Indexed.{index_at, indexed, segmented_index}
use Rattle.scan_kernels.proofs.OneItem.{all_ones}

flat_map-take_more : {X Y : Type 0} (f : X → List Y) (xs : List X) (i : ℕ) (d : X) → i < length xs → flat_map f (take (i + 1) xs) ≡ flat_map f (take i xs) ++ f (get_or xs i d)
flat_map-take_more f xs i d h =
    ap (flat_map f) (take_more xs i d h) ∙ flat_map-append f (take i xs) (get_or xs i d ∷ []) ∙ ap (λ l. flat_map f (take i xs) ++ l) (append-nil (f (get_or xs i d)))

-- the value of one more segment
pub distributed_more : {X : Type 0} (ls : List ℕ) (values : List X) (i : ℕ) (d : X) → i < length ls → length ls ≡ length values
    → flat_map (λ p. replicate p.0 p.1) (take (i + 1) (zip ls values)) ≡ flat_map (λ p. replicate p.0 p.1) (take i (zip ls values)) ++ replicate (get_or ls i 0) (get_or values i d)
distributed_more ls values i d h same =
    let long = length-zip ls values in
    flat_map-take_more (λ p. replicate p.0 p.1) (zip ls values) i (0, d) (omega arith)
    ∙ ap (λ p. flat_map (λ p. replicate p.0 p.1) (take i (zip ls values)) ++ replicate p.0 p.1) (get_or-zip ls values i (0, d) h (omega arith))

pub distributed_all : {X : Type 0} (ls : List ℕ) (values : List X) (i : ℕ) → length ls ≤ i → flat_map (λ p. replicate p.0 p.1) (take i (zip ls values)) ≡ distributed ls values
distributed_all ls values i h = let long = length-zip ls values in ap (flat_map (λ p. replicate p.0 p.1)) (take_all i (zip ls values) (omega arith))

-- the items of one more segment
pub segmented_index_more : (ls : List ℕ) (starts strides : List ℤ) (i : ℕ) → i < length ls → length ls ≡ length starts → length ls ≡ length strides
    → flat_map (λ p. indexed p.1.0 p.1.1 p.0) (take (i + 1) (zip ls (zip starts strides)))
    ≡ flat_map (λ p. indexed p.1.0 p.1.1 p.0) (take i (zip ls (zip starts strides))) ++ indexed (get_or starts i (pos 0)) (get_or strides i (pos 0)) (get_or ls i 0)
segmented_index_more ls starts strides i h same also =
    let inner = length-zip starts strides in
    let outer = length-zip ls (zip starts strides) in
    let done = flat_map (λ p. indexed p.1.0 p.1.1 p.0) (take i (zip ls (zip starts strides))) in
    flat_map-take_more (λ p. indexed p.1.0 p.1.1 p.0) (zip ls (zip starts strides)) i (0, (pos 0, pos 0)) (omega arith)
    ∙ ap (λ p. done ++ indexed p.1.0 p.1.1 p.0) (get_or-zip ls (zip starts strides) i (0, (pos 0, pos 0)) h (omega arith))
    ∙ ap (λ q. done ++ indexed q.0 q.1 (get_or ls i 0)) (get_or-zip starts strides i (pos 0, pos 0) (omega arith) (omega arith))

pub segmented_index_all : (ls : List ℕ) (starts strides : List ℤ) (i : ℕ) → length ls ≤ i
    → flat_map (λ p. indexed p.1.0 p.1.1 p.0) (take i (zip ls (zip starts strides))) ≡ segmented_index ls starts strides
segmented_index_all ls starts strides i h =
    let long = length-zip ls (zip starts strides) in ap (flat_map (λ p. indexed p.1.0 p.1.1 p.0)) (take_all i (zip ls (zip starts strides)) (omega arith))

-- one more item of a segment
pub indexed_push : (start stride : ℤ) (i : ℕ) → indexed start stride (i + 1) ≡ indexed start stride i ++ index_at start stride i ∷ []
unfolding indexed
indexed_push start stride i = map-range_with_len_more (index_at start stride) 0 i i (zero-add i)

pub indexed_none : (start stride : ℤ) → indexed start stride 0 ≡ []
unfolding indexed
indexed_none start stride = refl

pub indexed_at : (start stride : ℤ) (l i : ℕ) → i < l → slice_get (indexed start stride l) i ≡ Some (index_at start stride i)
unfolding indexed
indexed_at start stride l i h =
    let items = map (index_at start stride) (range_with_len 0 l) in
    let long = length-map-range_with_len (index_at start stride) 0 l in
    slice_get-get_or items i (pos 0) (omega arith) ∙ ap Some (get_or-map-range_with_len (index_at start stride) 0 l i i (pos 0) h (zero-add i))

-- the later segments take the later values
pub distributed-lengths-append : {X : Type 0} (ks ls : List ℕ) (xs : List X) → length ks ≤ length xs → distributed (ks ++ ls) xs ≡ distributed ks (take (length ks) xs) ++ distributed ls (drop (length ks) xs)
distributed-lengths-append [] ls xs h = refl
distributed-lengths-append (k ∷ ks) ls [] h = absurd (omega arith)
distributed-lengths-append (k ∷ ks) ls (x ∷ xs) h =
    ap (λ l. replicate k x ++ l) (distributed-lengths-append ks ls xs (omega arith))
    ∙ sym (append_assoc (replicate k x) (distributed ks (take (length ks) xs)) (distributed ls (drop (length ks) xs)))

pub segmented_index-lengths-append : (ks ls : List ℕ) (starts strides : List ℤ) → length ks ≤ length starts → length ks ≤ length strides
    → segmented_index (ks ++ ls) starts strides
    ≡ segmented_index ks (take (length ks) starts) (take (length ks) strides) ++ segmented_index ls (drop (length ks) starts) (drop (length ks) strides)
segmented_index-lengths-append [] ls starts strides h also = refl
segmented_index-lengths-append (k ∷ ks) ls [] strides h also = absurd (omega arith)
segmented_index-lengths-append (k ∷ ks) ls (s ∷ starts) [] h also = absurd (omega arith)
segmented_index-lengths-append (k ∷ ks) ls (s ∷ starts) (d ∷ strides) h also =
    ap (λ l. indexed s d k ++ l) (segmented_index-lengths-append ks ls starts strides (omega arith) (omega arith))
    ∙ sym (append_assoc (indexed s d k) (segmented_index ks (take (length ks) starts) (take (length ks) strides)) (segmented_index ls (drop (length ks) starts) (drop (length ks) strides)))

-- segments of one item each
distributed_each : {X : Type 0} (n : ℕ) (xs : List X) → n ≡ length xs → distributed (replicate n 1) xs ≡ xs
distributed_each zero [] h = refl
distributed_each zero (x ∷ xs) h = absurd (omega arith)
distributed_each (suc n) [] h = absurd (omega arith)
distributed_each (suc n) (x ∷ xs) h = ap (λ l. x ∷ l) (distributed_each n xs (omega arith))

pub distributed-ones : {X : Type 0} (ls : List ℕ) (xs : List X) → All (λ l. l ≡ 1) ls → length ls ≡ length xs → distributed ls xs ≡ xs
distributed-ones ls xs h same = ap (λ ks. distributed ks xs) (all_ones ls h) ∙ distributed_each (length ls) xs same

pub indexed_one : (start stride : ℤ) → indexed start stride 1 ≡ index_at start stride 0 ∷ []
unfolding indexed
indexed_one start stride = refl

indexed_each : (n : ℕ) (starts strides : List ℤ) → n ≡ length starts → n ≡ length strides → segmented_index (replicate n 1) starts strides ≡ map (λ p. index_at p.0 p.1 0) (zip starts strides)
indexed_each zero [] strides h also = refl
indexed_each zero (s ∷ starts) strides h also = absurd (omega arith)
indexed_each (suc n) [] strides h also = absurd (omega arith)
indexed_each (suc n) (s ∷ starts) [] h also = absurd (omega arith)
indexed_each (suc n) (s ∷ starts) (d ∷ strides) h also =
    ap (λ l. l ++ segmented_index (replicate n 1) starts strides) (indexed_one s d) ∙ ap (λ l. index_at s d 0 ∷ l) (indexed_each n starts strides (omega arith) (omega arith))

pub segmented_index-ones : (ls : List ℕ) (starts strides : List ℤ) → All (λ l. l ≡ 1) ls → length ls ≡ length starts → length ls ≡ length strides → segmented_index ls starts strides ≡ map (λ p. index_at p.0 p.1 0) (zip starts strides)
segmented_index-ones ls starts strides h same also = ap (λ ks. segmented_index ks starts strides) (all_ones ls h) ∙ indexed_each (length ls) starts strides same also

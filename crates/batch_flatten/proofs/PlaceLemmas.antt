-- What stands at places of a list: one more place (`at_places-push`), a write at a place outside (`at_places-set`), and all places
-- in the order of the waves (`at_places-in_order`). A wave is found one by one (`wave-more`, `wave-pass`), and of places
-- that rise each is outside those before it (`rising-outside`).
use Rattle.std.proofs.Common.{◌≡◌, ◌≢◌, ◌==◌, ℕ, zero, suc, ◌+◌, ◌<◌, ◌≤◌, Bool, true, false, cond, List, [], ◌∷◌, ◌++◌, length, Some, refl, sym, ap, ◌∙◌, arith, add-one, append-nil, append_assoc, length-append, eq-eqb, ne_eqb, get_or, slice_get, slice_index, set, take}
use Rattle.std.specs.List.{AllPairs, cons_option, flat_map, range_with_len}
use Rattle.std.proofs.lemmas.List.{length-take-le, take_all, take_more, take_more_set}
use Rattle.std.proofs.lemmas.List.Concat.{flat_map-append}
use Rattle.std.proofs.lemmas.List.Elements.{filter_map-append}
use Rattle.batch_flatten.specs.Waves.{count_of, by_waves, in_wave}
use Rattle.batch_flatten.specs.Places.{IsOutside, at_places, places_of, places_of_first}

module _ {X : Type 0} where
  pub slice_get-set_here : (xs : List X) (i : ℕ) (x y : X) → slice_get xs i ≡ Some x → slice_get (set xs i y) i ≡ Some y
  slice_get-set_here [] i x y h = absurd cc
  slice_get-set_here (z ∷ xs) zero x y h = refl
  slice_get-set_here (z ∷ xs) (suc i) x y h = slice_get-set_here xs i x y h

  pub slice_get-set_else : (xs : List X) (i j : ℕ) (y : X) → j ≢ i → slice_get (set xs i y) j ≡ slice_get xs j
  slice_get-set_else [] i j y other = refl
  slice_get-set_else (z ∷ xs) zero zero y other = absurd (other refl)
  slice_get-set_else (z ∷ xs) zero (suc j) y other = refl
  slice_get-set_else (z ∷ xs) (suc i) zero y other = refl
  slice_get-set_else (z ∷ xs) (suc i) (suc j) y other = slice_get-set_else xs i j y (λ e. other (ap suc e))

  pub set_itself : (xs : List X) (i : ℕ) (x : X) → slice_get xs i ≡ Some x → set xs i x ≡ xs
  set_itself [] i x h = refl
  set_itself (z ∷ xs) zero x h = let same : x ≡ z = cc in ap (λ (a : X). a ∷ xs) same
  set_itself (z ∷ xs) (suc i) x h = ap (λ (l : List X). z ∷ l) (set_itself xs i x h)

  pub at_places-one : (xs : List X) (i : ℕ) (x : X) → slice_get xs i ≡ Some x → at_places xs (i ∷ []) ≡ x ∷ []
  at_places-one xs i x there = ap (λ o. cons_option o []) there

  pub at_places-set : (xs : List X) (i : ℕ) (y : X) (places : List ℕ) → IsOutside places i → at_places (set xs i y) places ≡ at_places xs places
  at_places-set xs i y [] out = refl
  at_places-set xs i y (p ∷ ps) out =
      ap (λ o. cons_option o (at_places (set xs i y) ps)) (slice_get-set_else xs i p y out.0)
      ∙ ap (cons_option (slice_get xs p)) (at_places-set xs i y ps out.1)

  -- one more place, which is written
  pub at_places-push : (xs : List X) (i : ℕ) (x y : X) (places : List ℕ) → IsOutside places i → slice_get xs i ≡ Some x
      → at_places (set xs i y) (places ++ i ∷ []) ≡ at_places xs places ++ y ∷ []
  at_places-push xs i x y places out there =
      filter_map-append (slice_get (set xs i y)) places (i ∷ [])
      ∙ ap (λ l. l ++ at_places (set xs i y) (i ∷ [])) (at_places-set xs i y places out)
      ∙ ap (λ l. at_places xs places ++ l) (at_places-one (set xs i y) i y (slice_get-set_here xs i x y there))

  get-behind : (before : List X) (x : X) (xs : List X) → slice_get (before ++ x ∷ xs) (length before) ≡ Some x
  get-behind [] x xs = refl
  get-behind (b ∷ before) x xs = get-behind before x xs

  behind-wave : (before xs : List X) (ws : List ℕ) (wave n : ℕ) → length ws ≡ length xs → n ≡ length before
      → at_places (before ++ xs) (in_wave wave ws (range_with_len n (length ws))) ≡ in_wave wave ws xs
  behind-wave before [] [] wave n long start = refl
  behind-wave before (x ∷ xs) [] wave n long start = absurd (omega arith)
  behind-wave before [] (w ∷ ws) wave n long start = absurd (omega arith)
  behind-wave before (x ∷ xs) (w ∷ ws) wave n long start =
      by (w == wave)
      (ap (λ l. at_places l (in_wave wave ws (range_with_len (n + 1) (length ws)))) (sym (append_assoc before (x ∷ []) xs))
      ∙ behind-wave (before ++ x ∷ []) xs ws wave (n + 1) (omega arith) (omega (arith, length-append before (x ∷ []))))
    where
      rest : List ℕ
      rest = in_wave wave ws (range_with_len (n + 1) (length ws))

      here : slice_get (before ++ x ∷ xs) n ≡ Some x
      here = ap (slice_get (before ++ x ∷ xs)) start ∙ get-behind before x xs

      by : (b : Bool) → at_places (before ++ x ∷ xs) rest ≡ in_wave wave ws xs → at_places (before ++ x ∷ xs) (cond b (n ∷ rest) rest) ≡ cond b (x ∷ in_wave wave ws xs) (in_wave wave ws xs)
      by true later = ap (λ o. cons_option o (at_places (before ++ x ∷ xs) rest)) here ∙ ap (λ l. x ∷ l) later
      by false later = later

  -- what stands at the places of a wave
  pub at_places-of : (xs : List X) (ws : List ℕ) (wave : ℕ) → length ws ≡ length xs → at_places xs (places_of ws wave) ≡ in_wave wave ws xs
  at_places-of xs ws wave long = behind-wave [] xs ws wave 0 long refl

  -- what stands at all places, wave after wave
  pub at_places-first : (xs : List X) (ws vs : List ℕ) → length ws ≡ length xs → at_places xs (flat_map (places_of ws) vs) ≡ flat_map (λ wave. in_wave wave ws xs) vs
  at_places-first xs ws [] long = refl
  at_places-first xs ws (v ∷ vs) long =
      filter_map-append (slice_get xs) (places_of ws v) (flat_map (places_of ws) vs)
      ∙ ap (λ l. l ++ at_places xs (flat_map (places_of ws) vs)) (at_places-of xs ws v long)
      ∙ ap (λ l. in_wave v ws xs ++ l) (at_places-first xs ws vs long)

pub at_places-in_order : {X : Type 0} (xs : List X) (ws : List ℕ) → length ws ≡ length xs → at_places xs (places_of_first ws (count_of ws)) ≡ by_waves ws xs
at_places-in_order xs ws long = at_places-first xs ws (range_with_len 0 (count_of ws)) long

pub range-push : (a n : ℕ) → range_with_len a (suc n) ≡ range_with_len a n ++ (a + n) ∷ []
range-push a zero = ap (λ (x : ℕ). x ∷ []) (omega arith)
range-push a (suc n) =
    let moved : a + 1 + n ≡ a + suc n = omega arith in
    ap (λ l. a ∷ l) (range-push (a + 1) n ∙ ap (λ (x : ℕ). range_with_len (a + 1) n ++ x ∷ []) moved)

-- one more wave
pub places-next : (ws : List ℕ) (wave : ℕ) → places_of_first ws (wave + 1) ≡ places_of_first ws wave ++ places_of ws wave
places-next ws wave =
    let from_zero : 0 + wave ≡ wave = omega arith in
    ap (λ n. flat_map (places_of ws) (range_with_len 0 n)) (add-one wave)
    ∙ ap (flat_map (places_of ws)) (range-push 0 wave)
    ∙ flat_map-append (places_of ws) (range_with_len 0 wave) ((0 + wave) ∷ [])
    ∙ ap (λ l. places_of_first ws wave ++ l) (append-nil (places_of ws (0 + wave)))
    ∙ ap (λ (n : ℕ). places_of_first ws wave ++ places_of ws n) from_zero

in_wave-push : {X : Type 0} (wave w : ℕ) (ws : List ℕ) (x : X) (xs : List X) → length ws ≡ length xs → in_wave wave (ws ++ w ∷ []) (xs ++ x ∷ []) ≡ in_wave wave ws xs ++ cond (w == wave) (x ∷ []) []
in_wave-push wave w [] x [] long = refl
in_wave-push wave w [] x (y ∷ xs) long = absurd (omega arith)
in_wave-push wave w (v ∷ ws) x [] long = absurd (omega arith)
in_wave-push wave w (v ∷ ws) x (y ∷ xs) long = by (v == wave) (in_wave-push wave w ws x xs (omega arith))
  where
    by : (b : Bool) → in_wave wave (ws ++ w ∷ []) (xs ++ x ∷ []) ≡ in_wave wave ws xs ++ cond (w == wave) (x ∷ []) []
        → cond b (y ∷ in_wave wave (ws ++ w ∷ []) (xs ++ x ∷ [])) (in_wave wave (ws ++ w ∷ []) (xs ++ x ∷ [])) ≡ cond b (y ∷ in_wave wave ws xs) (in_wave wave ws xs) ++ cond (w == wave) (x ∷ []) []
    by true e = ap (λ l. y ∷ l) e
    by false e = e

pub length-range : (a n : ℕ) → length (range_with_len a n) ≡ n
length-range a zero = refl
length-range a (suc n) = ap suc (length-range (a + 1) n)

pub place_in : {X : Type 0} (xs : List X) (i : ℕ) → i < length xs → (x : X) × (slice_get xs i ≡ Some x)
place_in [] i lt = absurd (omega arith)
place_in (x ∷ xs) zero lt = (x, refl)
place_in (x ∷ xs) (suc i) lt = place_in xs i (omega arith)

in_wave-more : {X : Type 0} (ws : List ℕ) (xs : List X) (wave i : ℕ) (d : X) → i < length ws → i < length xs
    → in_wave wave (take (i + 1) ws) (take (i + 1) xs) ≡ in_wave wave (take i ws) (take i xs) ++ cond (slice_index ws i == wave) (get_or xs i d ∷ []) []
in_wave-more ws xs wave i d lt within =
    let long : length (take i ws) ≡ length (take i xs) = length-take-le i ws (omega arith) ∙ sym (length-take-le i xs (omega arith)) in
    ap (λ l. in_wave wave l (take (i + 1) xs)) (take_more ws i 0 lt)
    ∙ ap (in_wave wave (take i ws ++ slice_index ws i ∷ [])) (take_more xs i d within)
    ∙ in_wave-push wave (slice_index ws i) (take i ws) (get_or xs i d) (take i xs) long

-- the place i is of the wave: one more of it
pub wave-more : {X : Type 0} (ws : List ℕ) (xs ys : List X) (wave i n : ℕ) (x d : X) → i < length ws → i < length xs → n < length ys → slice_index ws i ≡ wave → x ≡ get_or xs i d → take n ys ≡ in_wave wave (take i ws) (take i xs)
    → take (n + 1) (set ys n x) ≡ in_wave wave (take (i + 1) ws) (take (i + 1) xs)
wave-more ws xs ys wave i n x d lt within room here read found =
    take_more_set ys n x room ∙ ap (λ l. l ++ x ∷ []) found
    ∙ ap (λ y. in_wave wave (take i ws) (take i xs) ++ y ∷ []) read
    ∙ ap (λ b. in_wave wave (take i ws) (take i xs) ++ cond b (get_or xs i d ∷ []) []) (sym (eq-eqb (slice_index ws i) wave here))
    ∙ sym (in_wave-more ws xs wave i d lt within)

-- it is of another
pub wave-pass : {X : Type 0} (ws : List ℕ) (xs : List X) (wave i : ℕ) (found : List X) → i < length ws → i < length xs → slice_index ws i ≢ wave → found ≡ in_wave wave (take i ws) (take i xs)
    → found ≡ in_wave wave (take (i + 1) ws) (take (i + 1) xs)
wave-pass ws xs wave i found lt within other is =
    let some = place_in xs i within in
    let x = some.0 in
    is ∙ sym (append-nil (in_wave wave (take i ws) (take i xs)))
    ∙ ap (λ b. in_wave wave (take i ws) (take i xs) ++ cond b (get_or xs i x ∷ []) []) (sym (ne_eqb (slice_index ws i) wave other))
    ∙ sym (in_wave-more ws xs wave i x lt within)

outside-front : (ps : List ℕ) (q k : ℕ) → k ≤ length ps → ((a : ℕ) → a < k → slice_index ps a ≢ q) → IsOutside (take k ps) q
outside-front ps q zero le apart = tt
outside-front [] q (suc k) le apart = tt
outside-front (p ∷ ps) q (suc k) le apart = (apart 0 (omega arith), outside-front ps q k (omega arith) (λ a lt. apart (suc a) (omega arith)))

-- of places that rise, each is outside those before it
pub rising-outside : (ps : List ℕ) (k : ℕ) → AllPairs (λ p q. p < q) ps → k < length ps → IsOutside (take k ps) (slice_index ps k)
rising-outside ps k rising lt = outside-front ps (slice_index ps k) k (omega arith) (λ a below e. let less : slice_index ps a < slice_index ps k = rising a k 0 below lt in absurd (omega arith))

pub range-at : (n i d : ℕ) → i < n → get_or (range_with_len 0 n) i d ≡ i
range-at n i d lt = from 0 n i lt ∙ (let zero : 0 + i ≡ i = omega arith in zero)
  where
    from : (a m k : ℕ) → k < m → get_or (range_with_len a m) k d ≡ a + k
    from a zero k low = absurd (omega arith)
    from a (suc m) zero low = omega arith
    from a (suc m) (suc k) low = let moved : a + 1 + k ≡ a + suc k = omega arith in from (a + 1) m k (omega arith) ∙ moved

-- the places that were found among all
pub all-places : (ws : List ℕ) (wave n : ℕ) (found : List ℕ) → length ws ≡ n → found ≡ in_wave wave ws (take n (range_with_len 0 n)) → found ≡ places_of ws wave
all-places ws wave n found long is =
    is ∙ ap (in_wave wave ws) (take_all n (range_with_len 0 n) (let full = length-range 0 n in omega arith)) ∙ ap (λ k. in_wave wave ws (range_with_len 0 k)) (sym long)

-- Where the places of waves lie: each wave's within the batch (`places-within`), in rising order (`rising-found`), and outside those
-- of the waves before (`places-outside`). Together they are no more than there are (`places-few`), and each place is one of them
-- (`each-placed`).
use Rattle.std.proofs.Common.{◌≡◌, Option, Some, ◌≢◌, ◌==◌, ℕ, zero, suc, ◌+◌, ◌<◌, ◌≤◌, max, Bool, true, false, cond, List, [], ◌∷◌, ◌++◌, length, refl, sym, ap, ◌∙◌, subst, arith, append_assoc, length-append, eq-eqb, ne_eqb, get_or, slice_get, slice_index, take, All}
use Rattle.std.specs.List.{AllByRecursion, cons_option, AllPairs, flat_map, range_with_len}
use Rattle.std.proofs.lemmas.Bool.{eqb-true}
use Rattle.std.proofs.lemmas.List.{get_or-take, length-take-le}
use Rattle.std.proofs.lemmas.Option.{get_or_from_slice_get}
use mathlib.Core.Logic.{dite}
use native.Mathlib.Decide.{ℕ_discrete}
use Rattle.batch_flatten.specs.Waves.{count_of, in_wave}
use Rattle.cvl_text.specs.declared.word.Word.{Word}
use Rattle.cvl_text.specs.declared.word.Word.TheVariants.{SetInts}
use Rattle.call_history.specs.declared.request.Outcome.{Outcome}
use Rattle.batch_flatten.specs.Joining.{AreNoted, AreWords}
use Rattle.batch_flatten.specs.Serving.{AreApart, DoNotClash}
use Rattle.batch_flatten.specs.Places.{at_places, IsOutside, places_of, places_of_first}
use Rattle.batch_flatten.proofs.PlaceLemmas.{at_places-of, place_in, places-next}

all-weaken : {X : Type 0} (P Q : X → Type 0) (xs : List X) → ((x : X) → P x → Q x) → AllByRecursion P xs → AllByRecursion Q xs
all-weaken P Q [] step all = tt
all-weaken P Q (x ∷ xs) step all = (step x all.0, all-weaken P Q xs step all.1)

all-append : {X : Type 0} (P : X → Type 0) (xs ys : List X) → AllByRecursion P xs → AllByRecursion P ys → AllByRecursion P (xs ++ ys)
all-append P [] ys all more = more
all-append P (x ∷ xs) ys all more = (all.0, all-append P xs ys all.1 more)

all-parts : {X : Type 0} (P : X → Type 0) (xs ys : List X) → AllByRecursion P (xs ++ ys) → AllByRecursion P xs × AllByRecursion P ys
all-parts P [] ys all = (tt, all)
all-parts P (x ∷ xs) ys all = let rest = all-parts P xs ys all.1 in ((all.0, rest.0), rest.1)

all-each : {X : Type 0} (P : X → Type 0) (xs : List X) → AllByRecursion P xs → All P xs
all-each P [] all k d lt = absurd (omega arith)
all-each P (x ∷ xs) all zero d lt = all.0
all-each P (x ∷ xs) all (suc k) d lt = all-each P xs all.1 k d (omega arith)

get-behind-number : (before : List ℕ) (w : ℕ) (ws : List ℕ) → slice_index (before ++ w ∷ ws) (length before) ≡ w
get-behind-number [] w ws = refl
get-behind-number (b ∷ before) w ws = get-behind-number before w ws

-- where the places of a wave lie, and that they are of it
behind-lie : (before ws : List ℕ) (wave n : ℕ) → n ≡ length before → AllByRecursion (λ p. (n ≤ p) × (p < n + length ws) × (slice_index (before ++ ws) p ≡ wave)) (in_wave wave ws (range_with_len n (length ws)))
behind-lie before [] wave n start = tt
behind-lie before (w ∷ ws) wave n start =
    by (w == wave) refl
    (all-weaken (λ p. (n + 1 ≤ p) × (p < n + 1 + length ws) × (slice_index (before ++ w ∷ [] ++ ws) p ≡ wave)) (λ p. (n ≤ p) × (p < n + suc (length ws)) × (slice_index (before ++ w ∷ ws) p ≡ wave)) rest
    (λ p lies. let low = lies.0 in let high = lies.1 in (omega arith, omega arith, ap (λ l. slice_index l p) (sym (append_assoc before (w ∷ []) ws)) ∙ lies.2))
    (behind-lie (before ++ w ∷ []) ws wave (n + 1) (omega (arith, length-append before (w ∷ [])))))
  where
    rest : List ℕ
    rest = in_wave wave ws (range_with_len (n + 1) (length ws))

    by : (b : Bool) → (w == wave) ≡ b → AllByRecursion (λ p. (n ≤ p) × (p < n + suc (length ws)) × (slice_index (before ++ w ∷ ws) p ≡ wave)) rest
        → AllByRecursion (λ p. (n ≤ p) × (p < n + suc (length ws)) × (slice_index (before ++ w ∷ ws) p ≡ wave)) (cond b (n ∷ rest) rest)
    by true e later = ((omega arith, omega arith, ap (slice_index (before ++ w ∷ ws)) start ∙ get-behind-number before w ws ∙ eqb-true w wave e), later)
    by false e later = later

lies-in : (ws : List ℕ) (wave : ℕ) → AllByRecursion (λ p. (0 ≤ p) × (p < 0 + length ws) × (slice_index ws p ≡ wave)) (places_of ws wave)
lies-in ws wave = behind-lie [] ws wave 0 refl

pub places-within : (ws : List ℕ) (wave n : ℕ) → length ws ≤ n → All (λ p. p < n) (places_of ws wave)
places-within ws wave n le =
    all-each (λ p. p < n) (places_of ws wave)
    (all-weaken (λ p. (0 ≤ p) × (p < 0 + length ws) × (slice_index ws p ≡ wave)) (λ p. p < n) (places_of ws wave) (λ p lies. let high = lies.1 in omega arith) (lies-in ws wave))

-- each place of a wave is of it
places-in : (ws : List ℕ) (wave : ℕ) → All (λ p. slice_index ws p ≡ wave) (places_of ws wave)
places-in ws wave =
    all-each (λ p. slice_index ws p ≡ wave) (places_of ws wave)
    (all-weaken (λ p. (0 ≤ p) × (p < 0 + length ws) × (slice_index ws p ≡ wave)) (λ p. slice_index ws p ≡ wave) (places_of ws wave) (λ p lies. lies.2) (lies-in ws wave))

IsRising : List ℕ → Type 0
IsRising [] = Unit {0}
IsRising (p ∷ ps) = AllByRecursion (λ q. p < q) ps × IsRising ps

all-pairs : (ps : List ℕ) → IsRising ps → AllPairs (λ p q. p < q) ps
unfolding IsRising
all-pairs [] rising i j d lt within = absurd (omega arith)
all-pairs (p ∷ ps) rising zero zero d lt within = absurd (omega arith)
all-pairs (p ∷ ps) rising zero (suc j) d lt within = all-each (λ q. p < q) ps rising.0 j d (omega arith)
all-pairs (p ∷ ps) rising (suc i) zero d lt within = absurd (omega arith)
all-pairs (p ∷ ps) rising (suc i) (suc j) d lt within = all-pairs ps rising.1 i j d (omega arith) (omega arith)

behind-rise : (ws : List ℕ) (wave n : ℕ) → IsRising (in_wave wave ws (range_with_len n (length ws)))
unfolding IsRising
behind-rise [] wave n = tt
behind-rise (w ∷ ws) wave n = by (w == wave) (behind-rise ws wave (n + 1)) (above ws (n + 1))
  where
    rest : List ℕ
    rest = in_wave wave ws (range_with_len (n + 1) (length ws))

    above : (vs : List ℕ) (m : ℕ) → n < m → AllByRecursion (λ q. n < q) (in_wave wave vs (range_with_len m (length vs)))
    above [] m lt = tt
    above (v ∷ vs) m lt = at (v == wave) (above vs (m + 1) (omega arith))
      where
        at : (b : Bool) → AllByRecursion (λ q. n < q) (in_wave wave vs (range_with_len (m + 1) (length vs)))
            → AllByRecursion (λ q. n < q) (cond b (m ∷ in_wave wave vs (range_with_len (m + 1) (length vs))) (in_wave wave vs (range_with_len (m + 1) (length vs))))
        at true later = (lt, later)
        at false later = later

    by : (b : Bool) → IsRising rest → (n < n + 1 → AllByRecursion (λ q. n < q) rest) → IsRising (cond b (n ∷ rest) rest)
    by true rising more = (more (omega arith), rising)
    by false rising more = rising

places-rise : (ws : List ℕ) (wave : ℕ) → AllPairs (λ p q. p < q) (places_of ws wave)
places-rise ws wave = all-pairs (places_of ws wave) (behind-rise ws wave 0)

pub rising-found : (ws ps : List ℕ) (wave : ℕ) → ps ≡ places_of ws wave → AllPairs (λ p q. p < q) ps
rising-found ws ps wave is = subst (AllPairs (λ p q. p < q)) (sym is) (places-rise ws wave)

first-below : (ws : List ℕ) (bound a n : ℕ) → a + n ≤ bound → AllByRecursion (λ p. slice_index ws p < bound) (flat_map (places_of ws) (range_with_len a n))
first-below ws bound a zero le = tt
first-below ws bound a (suc n) le =
    all-append (λ p. slice_index ws p < bound) (places_of ws a) (flat_map (places_of ws) (range_with_len (a + 1) n))
    (all-weaken (λ p. (0 ≤ p) × (p < 0 + length ws) × (slice_index ws p ≡ a)) (λ p. slice_index ws p < bound) (places_of ws a) (λ p lies. let is = lies.2 in omega arith) (lies-in ws a))
    (first-below ws bound (a + 1) n (omega arith))

pub places-outside : (ws : List ℕ) (wave : ℕ) → All (IsOutside (places_of_first ws wave)) (places_of ws wave)
places-outside ws wave =
    all-each (IsOutside (places_of_first ws wave)) (places_of ws wave)
    (all-weaken (λ p. (0 ≤ p) × (p < 0 + length ws) × (slice_index ws p ≡ wave)) (IsOutside (places_of_first ws wave)) (places_of ws wave)
    (λ p lies. all-weaken (λ q. slice_index ws q < wave) (λ q. q ≢ p) (places_of_first ws wave)
    (λ q below same. let is : slice_index ws q ≡ wave = ap (slice_index ws) same ∙ lies.2 in absurd (omega arith))
    (first-below ws wave 0 wave (omega arith)))
    (lies-in ws wave))

none-longer : {X : Type 0} (xs : List X) (a n : ℕ) → flat_map (λ wave. in_wave wave [] xs) (range_with_len a n) ≡ []
none-longer xs a zero = refl
none-longer xs a (suc n) = none-longer xs (a + 1) n

no-places : {X : Type 0} (w : ℕ) (ws : List ℕ) (a n : ℕ) → flat_map (λ wave. in_wave {X = X} wave (w ∷ ws) []) (range_with_len a n) ≡ []
no-places w ws a zero = refl
no-places w ws a (suc n) = no-places w ws (a + 1) n

none-above : {X : Type 0} (w : ℕ) (ws : List ℕ) (x : X) (xs : List X) (a n : ℕ) → w < a → flat_map (λ wave. in_wave wave (w ∷ ws) (x ∷ xs)) (range_with_len a n) ≡ flat_map (λ wave. in_wave wave ws xs) (range_with_len a n)
none-above w ws x xs a zero lt = refl
none-above w ws x xs a (suc n) lt =
    ap (λ b. cond b (x ∷ in_wave a ws xs) (in_wave a ws xs) ++ flat_map (λ wave. in_wave wave (w ∷ ws) (x ∷ xs)) (range_with_len (a + 1) n)) (ne_eqb w a (λ e. absurd (omega arith)))
    ∙ ap (λ l. in_wave a ws xs ++ l) (none-above w ws x xs (a + 1) n (omega arith))

one-longer : {X : Type 0} (w : ℕ) (ws : List ℕ) (x : X) (xs : List X) (a n : ℕ) → length (flat_map (λ wave. in_wave wave (w ∷ ws) (x ∷ xs)) (range_with_len a n)) ≤ suc (length (flat_map (λ wave. in_wave wave ws xs) (range_with_len a n)))
one-longer {X = X} w ws x xs a zero = omega arith
one-longer {X = X} w ws x xs a (suc n) = by (w == a) refl (one-longer w ws x xs (a + 1) n)
  where
    more : List X
    more = flat_map (λ wave. in_wave wave (w ∷ ws) (x ∷ xs)) (range_with_len (a + 1) n)

    less : List X
    less = flat_map (λ wave. in_wave wave ws xs) (range_with_len (a + 1) n)

    by : (b : Bool) → (w == a) ≡ b → length more ≤ suc (length less) → length (cond b (x ∷ in_wave a ws xs) (in_wave a ws xs) ++ more) ≤ suc (length (in_wave a ws xs ++ less))
    by true e le =
        let is : w ≡ a = eqb-true w a e in
        let same : length more ≡ length less = ap length (none-above w ws x xs (a + 1) n (omega arith)) in
        omega (arith, length-append (in_wave a ws xs) more, length-append (in_wave a ws xs) less)
    by false e le = omega (arith, length-append (in_wave a ws xs) more, length-append (in_wave a ws xs) less)

no-longer : {X : Type 0} (ws : List ℕ) (xs : List X) (a n : ℕ) → length (flat_map (λ wave. in_wave wave ws xs) (range_with_len a n)) ≤ length ws
no-longer [] xs a n = rw (none-longer xs a n) (omega arith)
no-longer (w ∷ ws) [] a n = rw (no-places w ws a n) (omega arith)
no-longer (w ∷ ws) (x ∷ xs) a n = let first = one-longer w ws x xs a n in let rest = no-longer ws xs a n in omega arith

-- the places of so many waves and of the next are no more than there are
pub places-few : (ws : List ℕ) (wave : ℕ) → length (places_of_first ws wave) + length (places_of ws wave) ≤ length ws
places-few ws wave =
    let both : length (places_of_first ws (wave + 1)) ≡ length (places_of_first ws wave) + length (places_of ws wave) = ap length (places-next ws wave) ∙ length-append (places_of_first ws wave) (places_of ws wave) in
    let few : length (places_of_first ws (wave + 1)) ≤ length ws = no-longer ws (range_with_len 0 (length ws)) 0 (wave + 1) in
    omega arith

in-its-wave : (ws : List ℕ) (wave n i : ℕ) → i < length ws → slice_index ws i ≡ wave → IsOutside (in_wave wave ws (range_with_len n (length ws))) (n + i) → ⊥
in-its-wave [] wave n i lt is out = absurd (omega arith)
in-its-wave (w ∷ ws) wave n zero lt is out = by (w == wave) refl out
  where
    rest : List ℕ
    rest = in_wave wave ws (range_with_len (n + 1) (length ws))

    by : (b : Bool) → (w == wave) ≡ b → IsOutside (cond b (n ∷ rest) rest) (n + 0) → ⊥
    by true e outside = outside.0 (omega arith)
    by false e outside = let same : (w == wave) ≡ true = eq-eqb w wave is in absurd cc
in-its-wave (w ∷ ws) wave n (suc i) lt is out = by (w == wave) (in-its-wave ws wave (n + 1) i (omega arith) is) out
  where
    rest : List ℕ
    rest = in_wave wave ws (range_with_len (n + 1) (length ws))

    moved : n + suc i ≡ n + 1 + i
    moved = omega arith

    by : (b : Bool) → (IsOutside rest (n + 1 + i) → ⊥) → IsOutside (cond b (n ∷ rest) rest) (n + suc i) → ⊥
    by true later outside = later (subst (IsOutside rest) moved outside.1)
    by false later outside = later (subst (IsOutside rest) moved outside)

in-some-wave : (ws : List ℕ) (p a n : ℕ) → p < length ws → a ≤ slice_index ws p → slice_index ws p < a + n → IsOutside (flat_map (places_of ws) (range_with_len a n)) p → ⊥
in-some-wave ws p a zero lt low high out = absurd (omega arith)
in-some-wave ws p a (suc n) lt low high out =
    let parts = all-parts (λ q. q ≢ p) (places_of ws a) (flat_map (places_of ws) (range_with_len (a + 1) n)) out in
    let from_zero : p ≡ 0 + p = omega arith in
    dite (ℕ_discrete (slice_index ws p) a)
    (λ is. in-its-wave ws a 0 p lt is (subst (IsOutside (places_of ws a)) from_zero parts.0))
    (λ other. in-some-wave ws p (a + 1) n lt (omega arith) (omega arith) parts.1)

counted : (ws : List ℕ) (p : ℕ) → p < length ws → slice_index ws p < count_of ws
counted [] p lt = absurd (omega arith)
counted (w ∷ ws) zero lt = omega arith
counted (w ∷ ws) (suc p) lt = let later = counted ws p (omega arith) in omega arith

-- each place is one of those of all waves
pub each-placed : (ws : List ℕ) (p : ℕ) → p < length ws → IsOutside (places_of_first ws (count_of ws)) p → ⊥
each-placed ws p lt out = let high = counted ws p lt in in-some-wave ws p 0 (count_of ws) lt (omega arith) (omega arith) out

pub count_of-push : (ws : List ℕ) (w : ℕ) → count_of (ws ++ w ∷ []) ≡ max (count_of ws) (suc w)
count_of-push [] w = omega arith
count_of-push (v ∷ ws) w = omega (arith, count_of-push ws w)

-- the places of a wave of the first so many
pub same-places : (waves ps : List ℕ) (wave n m : ℕ) → ps ≡ places_of (take n waves) wave → n ≡ m → ps ≡ places_of (take m waves) wave
same-places waves ps wave n m are is = are ∙ ap (λ k. places_of (take k waves) wave) is

at_places-get : {X : Type 0} (xs : List X) (ps : List ℕ) (b : ℕ) (d : X) → All (λ p. p < length xs) ps → b < length ps → get_or (at_places xs ps) b d ≡ get_or xs (slice_index ps b) d
at_places-get xs [] b d within lt = absurd (omega arith)
at_places-get {X = X} xs (p ∷ ps) b d within lt =
    let here = place_in xs p (within 0 0 (omega arith)) in
    ap (λ (o : Option X). get_or (cons_option o (at_places xs ps)) b d) here.1 ∙ by b here.0 here.1 lt (at_places-get xs ps)
  where
    by : (i : ℕ) (x : X) → slice_get xs p ≡ Some x → i < suc (length ps) → ((j : ℕ) (e : X) → All (λ q. q < length xs) ps → j < length ps → get_or (at_places xs ps) j e ≡ get_or xs (slice_index ps j) e)
        → get_or (x ∷ at_places xs ps) i d ≡ get_or xs (slice_index (p ∷ ps) i) d
    by zero x there low later = sym (get_or_from_slice_get xs p x d there)
    by (suc i) x there low later = later i d (λ k e lk. within (suc k) e (omega arith)) (omega arith)

-- the words that were found for a wave are those of its calls
pub found-words : (words found : List Word) (outcomes : List Outcome) (ws ps : List ℕ) (wave n : ℕ) → AreNoted words outcomes → length ws ≡ n → n ≤ length words → ps ≡ places_of ws wave → found ≡ in_wave wave ws (take n words) → AreWords found outcomes ps
found-words words found outcomes ws ps wave n noted long few are is b c lt there =
    let first : List Word = take n words in
    let same : length first ≡ n = length-take-le n words few in
    let within : All (λ p. p < n) ps = subst (All (λ p. p < n)) (sym are) (places-within ws wave n (omega arith)) in
    let low : slice_index ps b < n = within b 0 lt in
    let stands : found ≡ at_places first ps = is ∙ sym (at_places-of first ws wave (long ∙ sym same)) ∙ ap (at_places first) (sym are) in
    ap (λ l. get_or l b SetInts) stands ∙ at_places-get first ps b SetInts (subst (λ (k : ℕ). All (λ p. p < k) ps) (sym same) within) lt
    ∙ get_or-take n words (slice_index ps b) SetInts low ∙ noted (slice_index ps b) c there

-- calls of a wave keep apart
pub wave-apart : (waves : List ℕ) (outcomes : List Outcome) (ps : List ℕ) (wave n : ℕ) → AreApart waves outcomes → n ≤ length waves → ps ≡ places_of (take n waves) wave → AllPairs (DoNotClash outcomes) ps
wave-apart waves outcomes ps wave n apart few are = subst (AllPairs (DoNotClash outcomes)) (sym are) of_wave
  where
    ws : List ℕ
    ws = take n waves

    at_wave : (k : ℕ) (d : ℕ) → k < length (places_of ws wave) → slice_index waves (get_or (places_of ws wave) k d) ≡ wave
    at_wave k d lt =
        let low : get_or (places_of ws wave) k d < n = places-within ws wave n (let same = length-take-le n waves few in omega arith) k d lt in
        sym (get_or-take n waves (get_or (places_of ws wave) k d) 0 low) ∙ places-in ws wave k d lt

    of_wave : AllPairs (DoNotClash outcomes) (places_of ws wave)
    of_wave i j d lt within = apart (get_or (places_of ws wave) i d) (get_or (places_of ws wave) j d) (places-rise ws wave i j d lt within) (at_wave i d (omega arith) ∙ sym (at_wave j d within))

pub same-words : (waves : List ℕ) (words found : List Word) (wave n m : ℕ) → found ≡ in_wave wave (take n waves) (take n words) → n ≡ m → found ≡ in_wave wave (take m waves) (take m words)
same-words waves words found wave n m are is = are ∙ ap (λ k. in_wave wave (take k waves) (take k words)) is

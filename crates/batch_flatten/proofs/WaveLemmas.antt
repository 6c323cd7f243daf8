-- The wave of one more job: the least that is not barred (`free_from-least`), which is none past the jobs before
-- (`wave_of-le`); `waves_of-push` adds a job, and `made-more` does where zeros stand behind the waves.
use Rattle.std.proofs.Common.{◌≡◌, ◌≢◌, ◌==◌, ℕ, zero, suc, ◌+◌, ◌-◌, ◌<◌, ◌≤◌, Bool, true, false, cond, ◌&&◌, ◌||◌, List, [], ◌∷◌, ◌++◌, length, map, zip, refl, sym, ap, ◌∙◌, arith, append-nil, append_assoc, ne_eqb, slice_set, set, get_or, take, replicate}
use Rattle.std.proofs.lemmas.List.{take_more, map_more, length-take-le, length-map, take_at, set_at, length-append, length-replicate}
use Rattle.std.proofs.lemmas.List.Folds.{list_any-append}
use Rattle.std.proofs.lemmas.Slice.Zip.{length-zip}
use mathlib.Core.Logic.{dite}
use native.Mathlib.Decide.{ℕ_discrete}
use Rattle.call_history.specs.declared.request.Request.{Request}
use Rattle.cvl_text.specs.Tasks.{Task}
use Rattle.batch_flatten.specs.Waves.{asked, jobs_clash, is_barred, free_from, wave_of, waves_behind, waves_of}
use Rattle.batch_flatten.specs.Plans.{placed}

pub free_from-le : (before : List (ℕ × List Task)) (t : List Task) (s n : ℕ) → free_from before t s n ≤ s + n
free_from-le before t s zero = omega arith
free_from-le before t s (suc n) = by (is_barred before t s) (free_from-le before t (suc s) n)
  where
    by : (b : Bool) → free_from before t (suc s) n ≤ suc s + n → cond b (free_from before t (suc s) n) s ≤ s + suc n
    by true le = omega arith
    by false le = omega arith

pub wave_of-le : (before : List (ℕ × List Task)) (t : List Task) → wave_of before t ≤ length before
wave_of-le before t = let le = free_from-le before t 0 (length before) in omega arith

-- the first wave that is not barred, or the last that may be
pub free_from-least : (before : List (ℕ × List Task)) (t : List Task) (s n w : ℕ) → s ≤ w → w ≤ s + n → ((v : ℕ) → s ≤ v → v < w → is_barred before t v ≡ true) → (w < s + n → is_barred before t w ≡ false) → free_from before t s n ≡ w
free_from-least before t s zero w from upto barred free = omega arith
free_from-least before t s (suc n) w from upto barred free = dite (ℕ_discrete s w)
    (λ is. ap (λ b. cond b (free_from before t (suc s) n) s) (ap (is_barred before t) is ∙ free (omega arith)) ∙ is)
    (λ other. ap (λ b. cond b (free_from before t (suc s) n) s) (barred s (omega arith) (omega arith))
    ∙ free_from-least before t (suc s) n w (omega arith) (omega arith) (λ v le lt. barred v (omega arith) lt) (λ lt. free (omega arith)))

pub or_none : (a b : Bool) → a ≡ false → b ≡ false → (a || b) ≡ false
or_none true b e f = absurd cc
or_none false b e f = f

pub waves_behind-push : (before : List (ℕ × List Task)) (ts : List (List Task)) (t : List Task) → waves_behind before (ts ++ t ∷ []) ≡ waves_behind before ts ++ wave_of (before ++ zip (waves_behind before ts) ts) t ∷ []
waves_behind-push before [] t = ap (λ b. wave_of b t ∷ []) (sym (append-nil before))
waves_behind-push before (x ∷ xs) t =
    let first : ℕ × List Task = (wave_of before x, x) in
    let rest : List ℕ = waves_behind (before ++ first ∷ []) xs in
    ap (λ (l : List ℕ). wave_of before x ∷ l) (waves_behind-push (before ++ first ∷ []) xs t
    ∙ ap (λ b. rest ++ wave_of b t ∷ []) (append_assoc before (first ∷ []) (zip rest xs)))

pub waves_of-push : (ts : List (List Task)) (t : List Task) → waves_of (ts ++ t ∷ []) ≡ waves_of ts ++ wave_of (zip (waves_of ts) ts) t ∷ []
waves_of-push ts t = waves_behind-push [] ts t

zip-push : {X Y : Type 0} (xs : List X) (ys : List Y) (x : X) (y : Y) → length xs ≡ length ys → zip (xs ++ x ∷ []) (ys ++ y ∷ []) ≡ zip xs ys ++ (x, y) ∷ []
zip-push [] [] x y h = refl
zip-push [] (b ∷ ys) x y h = absurd (omega arith)
zip-push (a ∷ xs) [] x y h = absurd (omega arith)
zip-push (a ∷ xs) (b ∷ ys) x y h = ap (λ l. (a, b) ∷ l) (zip-push xs ys x y (omega arith))

pub placed-more : (i : ℕ) (ws : List ℕ) (rs : List Request) (d : Request) → i < length ws → i < length rs → placed (i + 1) ws rs ≡ placed i ws rs ++ (get_or ws i 0, asked (get_or rs i d)) ∷ []
placed-more i ws rs d few within =
    let long : length (take i ws) ≡ length (map asked (take i rs)) = omega (arith, length-take-le i ws (omega arith), length-map (take i rs) asked, length-take-le i rs (omega arith)) in
    ap (λ l. zip l (map asked (take (i + 1) rs))) (take_more ws i 0 few)
    ∙ ap (zip (take i ws ++ get_or ws i 0 ∷ [])) (map_more asked rs i d within)
    ∙ zip-push (take i ws) (map asked (take i rs)) (get_or ws i 0) (asked (get_or rs i d)) long

pub length-placed : (i : ℕ) (ws : List ℕ) (rs : List Request) → i ≤ length ws → i ≤ length rs → length (placed i ws rs) ≡ i
length-placed i ws rs few within =
    omega (arith, length-zip (take i ws) (map asked (take i rs)), length-take-le i ws few, length-map (take i rs) asked, length-take-le i rs within)

-- one more job that does not bar the wave, or that does
pub barred-push : (before : List (ℕ × List Task)) (p : ℕ × List Task) (t : List Task) (w : ℕ) → is_barred (before ++ p ∷ []) t w ≡ (is_barred before t w || (p.0 == w && jobs_clash p.1 t))
barred-push before p t w = list_any-append (λ q. q.0 == w && jobs_clash q.1 t) before (p ∷ []) ∙ ap (λ b. is_barred before t w || b) (or_last (p.0 == w && jobs_clash p.1 t))
  where
    or_last : (b : Bool) → (b || false) ≡ b
    or_last true = refl
    or_last false = refl

pub barred-other : (v w : ℕ) (b : Bool) → v ≢ w → (v == w && b) ≡ false
barred-other v w b other = ap (λ c. c && b) (ne_eqb v w other)

length-waves_behind : (before : List (ℕ × List Task)) (ts : List (List Task)) → length (waves_behind before ts) ≡ length ts
length-waves_behind before [] = refl
length-waves_behind before (t ∷ ts) = ap suc (length-waves_behind (before ++ (wave_of before t, t) ∷ []) ts)

pub length-waves_of : (ts : List (List Task)) → length (waves_of ts) ≡ length ts
length-waves_of ts = length-waves_behind [] ts

-- the waves so far, with zeros behind them, tell where the first jobs are placed
pub placed-made : (i n : ℕ) (ws : List ℕ) (rs : List Request) → i ≤ length rs → ws ≡ waves_of (map asked (take i rs)) ++ replicate n 0 → placed i ws rs ≡ zip (waves_of (map asked (take i rs))) (map asked (take i rs))
placed-made i n ws rs within made =
    let ts = map asked (take i rs) in
    let long : length (waves_of ts) ≡ i = length-waves_of ts ∙ (length-map (take i rs) asked ∙ length-take-le i rs within) in
    ap (λ l. zip (take i l) ts) made ∙ ap (λ l. zip l ts) (take_at (waves_of ts) (replicate n 0) i long)

-- one more job gets its wave
pub made-more : (i : ℕ) (ws : List ℕ) (rs : List Request) (d : Request) → i < length rs → i < 64 → ws ≡ waves_of (map asked (take i rs)) ++ replicate (64 - i) 0
    → slice_set ws i (wave_of (placed i ws rs) (asked (get_or rs i d))) ≡ waves_of (map asked (take (i + 1) rs)) ++ replicate (64 - (i + 1)) 0
made-more i ws rs d within few made =
    let ts = map asked (take i rs) in
    let t = asked (get_or rs i d) in
    let w = wave_of (placed i ws rs) t in
    let long : length (waves_of ts) ≡ i = length-waves_of ts ∙ (length-map (take i rs) asked ∙ length-take-le i rs (omega arith)) in
    let left : 64 - i ≡ suc (64 - (i + 1)) = omega arith in
    ap (λ l. set l i w) (made ∙ ap (λ k. waves_of ts ++ replicate k 0) left)
    ∙ set_at (waves_of ts) 0 (replicate (64 - (i + 1)) 0) w i long
    ∙ sym (append_assoc (waves_of ts) (w ∷ []) (replicate (64 - (i + 1)) 0))
    ∙ ap (λ l. l ++ replicate (64 - (i + 1)) 0) (ap (λ b. waves_of ts ++ wave_of b t ∷ []) (placed-made i (64 - i) ws rs (omega arith) made) ∙ sym (waves_of-push ts t) ∙ ap waves_of (sym (map_more asked rs i d within)))

pub length-made : (i : ℕ) (ws : List ℕ) (rs : List Request) → i ≤ length rs → i ≤ 64 → ws ≡ waves_of (map asked (take i rs)) ++ replicate (64 - i) 0 → length ws ≡ 64
length-made i ws rs within few made =
    let ts = map asked (take i rs) in
    let long : length (waves_of ts) ≡ i = length-waves_of ts ∙ (length-map (take i rs) asked ∙ length-take-le i rs within) in
    omega (arith, ap length made, length-append (waves_of ts) (replicate (64 - i) 0), length-replicate {A = ℕ} (64 - i) 0)

-- one request alone is of the first wave
pub alone-waves : (rs : List Request) → length rs < 2 → replicate 64 0 ≡ waves_of (map asked rs) ++ replicate (64 - length rs) 0
alone-waves [] few = refl
alone-waves (r ∷ []) few = refl
alone-waves (r ∷ q ∷ rs) few = absurd (omega arith)

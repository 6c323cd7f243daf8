-- Different words, counted one after the other: one more word counts where it is new (`kernels-new`), and takes nothing away
-- (`kernels-le`). Two words are one, or not (`word_cases`).
use Rattle.std.proofs.Common.{◌≡◌, ◌≢◌, ◌⊎◌, inl, inr, ℕ, ◌+◌, ◌<◌, ◌≤◌, Bool, true, false, cond, ◌||◌, List, [], ◌∷◌, ◌++◌, filter, length, take, refl, sym, ap, ◌∙◌, subst, add-one, append-nil, arith, sum, sum_by, zero-add}
use Rattle.std.specs.List.{AllByRecursion, range_with_len}
use Rattle.std.proofs.lemmas.List.{take_more}
use Rattle.std.proofs.lemmas.List.Elements.{filter-append}
use Rattle.std.proofs.lemmas.List.Folds.{list_any-append}
use Rattle.std.proofs.lemmas.List.Sums.{sum_by-append}
use Rattle.cvl_text.specs.declared.word.Word.{Word}
use Rattle.cvl_text.specs.declared.word.Word.TheVariants.{SetInts}
use Rattle.cvl_text.proofs.SameWords.{words_Decide}
use Rattle.cvl_calls.specs.Runs.{runs_kernel}
use Rattle.batch_flatten.specs.Counts.{different, different_kernels, is_one_of, is_same_word, kernels_below}
use Rattle.batch_flatten.specs.Waves.{in_wave}
use Rattle.batch_flatten.proofs.PlaceLemmas.{range-push}
use Rattle.batch_flatten.specs.Joining.{word_at}

pub word_cases : (v w : Word) → (v ≡ w) ⊎ (v ≢ w)
word_cases v w = by (is_same_word v w) refl
  where
    by : (b : Bool) → is_same_word v w ≡ b → (v ≡ w) ⊎ (v ≢ w)
    by true e = inl ((words_Decide v w).0 e)
    by false e = inr (λ same. let yes : is_same_word v w ≡ true = (words_Decide v w).1 same in absurd cc)

not_same : (v w : Word) → v ≢ w → is_same_word v w ≡ false
not_same v w apart = by (is_same_word v w) refl
  where
    by : (b : Bool) → is_same_word v w ≡ b → is_same_word v w ≡ false
    by true e = absurd (apart ((words_Decide v w).0 e))
    by false e = e

-- the word is none of these
abbrev pub IsNew : Word → List Word → Type 0
IsNew word words = AllByRecursion (λ w. w ≢ word) words

new-apart : (words : List Word) (w : Word) → is_one_of words w ≡ false → IsNew w words
new-apart [] w e = tt
new-apart (v ∷ vs) w e = by (is_same_word v w) refl e (new-apart vs w)
  where
    by : (b : Bool) → is_same_word v w ≡ b → (b || is_one_of vs w) ≡ false → (is_one_of vs w ≡ false → IsNew w vs) → IsNew w (v ∷ vs)
    by true same f later = absurd cc
    by false other f later = ((λ same. let yes : is_same_word v w ≡ true = (words_Decide v w).1 same in absurd cc), later f)

or_false : (b : Bool) → (b || false) ≡ b
or_false true = refl
or_false false = refl

one_of-push : (ws : List Word) (w v : Word) → is_one_of (ws ++ w ∷ []) v ≡ (is_one_of ws v || is_same_word w v)
one_of-push ws w v = list_any-append (λ u. is_same_word u v) ws (w ∷ []) ∙ ap (λ b. is_one_of ws v || b) (or_false (is_same_word w v))

different-new : (ws : List Word) (w : Word) → IsNew w ws → different (ws ++ w ∷ []) ≡ 1 + different ws
different-new [] w fresh = refl
different-new (v ∷ vs) w fresh =
    ap (λ b. cond b (different (vs ++ w ∷ [])) (1 + different (vs ++ w ∷ []))) (one_of-push vs w v ∙ ap (λ b. is_one_of vs v || b) (not_same w v (λ same. fresh.0 (sym same))) ∙ or_false (is_one_of vs v))
    ∙ by (is_one_of vs v) (different-new vs w fresh.1)
  where
    by : (b : Bool) → different (vs ++ w ∷ []) ≡ 1 + different vs → cond b (different (vs ++ w ∷ [])) (1 + different (vs ++ w ∷ [])) ≡ 1 + cond b (different vs) (1 + different vs)
    by true e = e
    by false e = ap (λ n. 1 + n) e

different-le : (ws : List Word) (w : Word) → different ws ≤ different (ws ++ w ∷ [])
different-le [] w = omega arith
different-le (v ∷ vs) w =
    by (is_one_of vs v) (is_same_word w v) (one_of-push vs w v) (different-le vs w)
    (λ none same. different-new vs w (subst (λ u. IsNew u vs) (sym ((words_Decide w v).0 same)) (new-apart vs v none))) refl refl
  where
    by : (b s : Bool) → is_one_of (vs ++ w ∷ []) v ≡ (is_one_of vs v || is_same_word w v) → different vs ≤ different (vs ++ w ∷ [])
        → (is_one_of vs v ≡ false → is_same_word w v ≡ true → different (vs ++ w ∷ []) ≡ 1 + different vs) → is_one_of vs v ≡ b → is_same_word w v ≡ s
        → cond (is_one_of vs v) (different vs) (1 + different vs) ≤ cond (is_one_of (vs ++ w ∷ []) v) (different (vs ++ w ∷ [])) (1 + different (vs ++ w ∷ []))
    by true s both le fresh e f =
        let now : is_one_of (vs ++ w ∷ []) v ≡ true = both ∙ ap (λ x. x || is_same_word w v) e in
        subst (λ (z : Bool × Bool). cond z.0 (different vs) (1 + different vs) ≤ cond z.1 (different (vs ++ w ∷ [])) (1 + different (vs ++ w ∷ []))) (λ i. (sym e i, sym now i)) le
    by false false both le fresh e f =
        let now : is_one_of (vs ++ w ∷ []) v ≡ false = both ∙ ap (λ x. x || is_same_word w v) e ∙ f in
        subst (λ (z : Bool × Bool). cond z.0 (different vs) (1 + different vs) ≤ cond z.1 (different (vs ++ w ∷ [])) (1 + different (vs ++ w ∷ []))) (λ i. (sym e i, sym now i)) (omega arith)
    by false true both le fresh e f =
        let now : is_one_of (vs ++ w ∷ []) v ≡ true = both ∙ ap (λ x. x || is_same_word w v) e ∙ f in
        let more = fresh e f in
        subst (λ (z : Bool × Bool). cond z.0 (different vs) (1 + different vs) ≤ cond z.1 (different (vs ++ w ∷ [])) (1 + different (vs ++ w ∷ []))) (λ i. (sym e i, sym now i)) (omega arith)

new-filter : (ws : List Word) (w : Word) → IsNew w ws → IsNew w (filter runs_kernel ws)
new-filter [] w fresh = tt
new-filter (v ∷ vs) w fresh = by (runs_kernel v) (new-filter vs w fresh.1)
  where
    by : (b : Bool) → IsNew w (filter runs_kernel vs) → IsNew w (cond b (v ∷ filter runs_kernel vs) (filter runs_kernel vs))
    by true later = (fresh.0, later)
    by false later = later

kernels-push : (ws : List Word) (w : Word) → different_kernels (ws ++ w ∷ []) ≡ different (filter runs_kernel ws ++ cond (runs_kernel w) (w ∷ []) [])
kernels-push ws w = ap different (filter-append runs_kernel ws (w ∷ []))

next : (words : List Word) (position : ℕ) → position < length words → take (position + 1) words ≡ take position words ++ word_at words position ∷ []
next words position lt = take_more words position SetInts lt

-- one more word takes nothing away
pub kernels-le : (words : List Word) (position : ℕ) → position < length words → different_kernels (take position words) ≤ different_kernels (take (position + 1) words)
kernels-le words position lt =
    subst (λ n. different_kernels (take position words) ≤ n) (sym (ap different_kernels (next words position lt) ∙ kernels-push (take position words) (word_at words position)))
    (by (runs_kernel (word_at words position)))
  where
    by : (b : Bool) → different (filter runs_kernel (take position words)) ≤ different (filter runs_kernel (take position words) ++ cond b (word_at words position ∷ []) [])
    by true = different-le (filter runs_kernel (take position words)) (word_at words position)
    by false = subst (λ l. different (filter runs_kernel (take position words)) ≤ different l) (sym (append-nil (filter runs_kernel (take position words)))) (omega arith)

-- a new word that runs a kernel counts
pub kernels-new : (words : List Word) (position : ℕ) → position < length words → runs_kernel (word_at words position) ≡ true → IsNew (word_at words position) (take position words)
    → different_kernels (take (position + 1) words) ≡ 1 + different_kernels (take position words)
kernels-new words position lt kernel fresh =
    ap different_kernels (next words position lt) ∙ kernels-push (take position words) (word_at words position)
    ∙ ap (λ b. different (filter runs_kernel (take position words) ++ cond b (word_at words position ∷ []) [])) kernel
    ∙ different-new (filter runs_kernel (take position words)) (word_at words position) (new-filter (take position words) (word_at words position) fresh)

-- one more wave
pub kernels-next : (ws : List ℕ) (words : List Word) (sizes : List ℕ) (waves : ℕ)
    → kernels_below ws words sizes (waves + 1) ≡ kernels_below ws words sizes waves + (different_kernels (in_wave waves ws words) + sum (in_wave waves ws sizes))
kernels-next ws words sizes waves =
    let count : ℕ → ℕ = λ (wave : ℕ). different_kernels (in_wave wave ws words) + sum (in_wave wave ws sizes) in
    let from_zero : 0 + waves ≡ waves = omega arith in
    ap (λ n. sum_by count (range_with_len 0 n)) (add-one waves)
    ∙ ap (sum_by count) (range-push 0 waves)
    ∙ sum_by-append count (range_with_len 0 waves) ((0 + waves) ∷ [])
    ∙ ap (λ (n : ℕ). kernels_below ws words sizes waves + n) (zero-add (count (0 + waves)) ∙ ap count from_zero)

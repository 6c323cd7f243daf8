-- Words of a text in which single spaces stand between words: `words_of-spaced`.
-- A word is a text of at least one byte, none of them a space.
use Rattle.std.proofs.Common.{◌≡◌, ℕ, Bool, true, false, eqb, not, List, [], ◌∷◌, ◌++◌, filter, refl, ap, ◌∙◌}
use Rattle.std.specs.List.{list_all, AllByRecursion}
use Rattle.cvl_text.proofs.Truths.{both}
use Rattle.cvl_text.specs.Words.{onto_first, pieces, is_filled, words_of}
use Rattle.cvl_text.specs.TaskTexts.{spaced}

abbrev pub is_solid : List ℕ → Bool
is_solid w = list_all (λ b. not (eqb b 32)) w

pub record IsWord (w : List ℕ) : Type 0 where
  pub filled : is_filled w ≡ true
  pub solid : is_solid w ≡ true

no_space : (b : ℕ) (t : Bool) → eqb b 32 ≡ t → not (eqb b 32) ≡ true → eqb b 32 ≡ false
no_space b true e h = absurd (cc)
no_space b false e h = e

pieces-last : (w : List ℕ) → is_solid w ≡ true → pieces w ≡ w ∷ []
pieces-last [] h = refl
pieces-last (b ∷ bs) h =
    let parts = both (not (eqb b 32)) (is_solid bs) h in
    rw (no_space b _ refl parts.0) (ap (onto_first b) (pieces-last bs parts.1))

pieces-word : (w rest : List ℕ) → is_solid w ≡ true → pieces (w ++ 32 ∷ rest) ≡ w ∷ pieces rest
pieces-word [] rest h = refl
pieces-word (b ∷ bs) rest h =
    let parts = both (not (eqb b 32)) (is_solid bs) h in
    rw (no_space b _ refl parts.0) (ap (onto_first b) (pieces-word bs rest parts.1))

filter-filled : (w : List ℕ) (ps : List (List ℕ)) → is_filled w ≡ true → filter is_filled (w ∷ ps) ≡ w ∷ filter is_filled ps
filter-filled w ps h = rw h refl

pub words_of-spaced : (ws : List (List ℕ)) → AllByRecursion IsWord ws → words_of (spaced ws) ≡ ws
words_of-spaced [] h = refl
words_of-spaced (w ∷ []) h = ap (filter is_filled) (pieces-last w h.0.solid) ∙ filter-filled w [] h.0.filled
words_of-spaced (w ∷ v ∷ ws) h =
    ap (filter is_filled) (pieces-word w (spaced (v ∷ ws)) h.0.solid)
    ∙ filter-filled w (pieces (spaced (v ∷ ws))) h.0.filled
    ∙ ap (λ (rest : List (List ℕ)). w ∷ rest) (words_of-spaced (v ∷ ws) h.1)

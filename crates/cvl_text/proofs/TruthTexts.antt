-- Truth values and their texts: `truth_of-truth_text`, `truth_text-read`, `IsWord-truth`.
use Rattle.std.proofs.Common.{◌≡◌, ℕ, Bool, true, false, cond, List, Some, None, refl, sym}
use Rattle.std.specs.Prelude.{codes}
use Rattle.std.specs.Cmp.Lexicographic as texts
use Rattle.cvl_text.specs.TruthValues.{truth_text, truth_of}
use Rattle.cvl_text.specs.Words.{same_text}
use Rattle.cvl_text.proofs.Spaced.{IsWord}

read_by : (w : List ℕ) (b t f : Bool) → same_text w (codes "T") ≡ t → same_text w (codes "F") ≡ f
    → cond t (Some true) (cond f (Some false) None) ≡ Some b → truth_text b ≡ w
read_by w true true f is_t is_f e = sym (texts.same_text w (codes "T") (sym is_t))
read_by w false true f is_t is_f e = absurd cc
read_by w false false true is_t is_f e = sym (texts.same_text w (codes "F") (sym is_f))
read_by w true false true is_t is_f e = absurd cc
read_by w b false false is_t is_f e = absurd cc

-- the text that a truth value was read from is its own
pub truth_text-read : (w : List ℕ) (b : Bool) → truth_of w ≡ Some b → truth_text b ≡ w
truth_text-read w b e = read_by w b (same_text w (codes "T")) (same_text w (codes "F")) refl refl e

pub truth_of-truth_text : (b : Bool) → truth_of (truth_text b) ≡ Some b
truth_of-truth_text true = refl
truth_of-truth_text false = refl

pub IsWord-truth : (b : Bool) → IsWord (truth_text b)
IsWord-truth true = record { filled = refl; solid = refl }
IsWord-truth false = record { filled = refl; solid = refl }

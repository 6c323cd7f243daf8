-- Something is wrong with the words of a text exactly where the grammar has no call for them.
use Rattle.std.proofs.Common.{◌≡◌, ℕ, Bool, true, false, cond, ◌&&◌, List, [], ◌∷◌, Option, Some, None, refl, sym, ap, ◌∙◌}
use Rattle.std.specs.Prelude.{is_none, is_some, codes, option_and_then}
use Rattle.std.specs.Option.{option_map}
use Rattle.vector_memory.specs.declared.edition.Edition.{Edition}
use Rattle.vector_memory.specs.Editions.{longest_name}
use Rattle.vector_memory.specs.Names.{is_name}
use Rattle.cvl_text.specs.declared.word.Word.{Word}
use Rattle.cvl_text.specs.Lines.{ArgumentKind, NameKind, NumberKind, TruthKind, NumbersKind, TruthsKind, all_of, arguments_in, is_targeted, kinds_of, targeted, untargeted, behind_target, without_target, task_in}
use Rattle.cvl_text.specs.Numbers.{number_of}
use Rattle.cvl_text.specs.TruthValues.{truth_of}
use Rattle.cvl_text.specs.Words.{same_text, word_of}
use Rattle.bad_lines.specs.declared.kind.Kind.TheVariants.{Name, Number, Truth}
use Rattle.bad_lines.specs.declared.reason.Reason.{Reason}
use Rattle.bad_lines.specs.Forms.{form_of_word}
use Rattle.bad_lines.specs.Kinds.{fits}
use Rattle.bad_lines.specs.Wrongs.{Tells, Wrong, first_misfit, first_wrong, has_byte, wrong_use, wrong_behind, wrong_in}

-- what is read of a word, and what behind it
read_step : {A B C : Type 0} (read : Option A) (here : Option C) (bad : C) (behind : A → Option B) → ((x : A) → is_none here ≡ is_some (behind x))
    → is_none (cond (is_some read) here (Some bad)) ≡ is_some (option_and_then behind read)
read_step (Some x) here bad behind same = same x
read_step None here bad behind same = refl

name_step : {A B C : Type 0} (b : Bool) (x : A) (here : Option C) (bad : C) (behind : A → Option B) → is_none here ≡ is_some (behind x)
    → is_none (cond b here (Some bad)) ≡ is_some (option_and_then behind (cond b (Some x) None))
name_step true x here bad behind same = same
name_step false x here bad behind same = refl

made : {A B : Type 0} (o : Option A) (f : A → B) → is_some o ≡ is_some (option_and_then (λ x. Some (f x)) o)
made (Some x) f = refl
made None f = refl

misfit-numbers : (edition : Edition) (call : List ℕ) (ws : List (List ℕ)) → is_none (first_misfit edition call Number ws) ≡ is_some (all_of number_of ws)
unfolding fits
misfit-numbers edition call [] = refl
misfit-numbers edition call (w ∷ ws) = read_step (number_of w) _ _ _ (λ x. misfit-numbers edition call ws ∙ made (all_of number_of ws) (λ xs. x ∷ xs))

misfit-truths : (edition : Edition) (call : List ℕ) (ws : List (List ℕ)) → is_none (first_misfit edition call Truth ws) ≡ is_some (all_of truth_of ws)
unfolding fits
misfit-truths edition call [] = refl
misfit-truths edition call (w ∷ ws) = read_step (truth_of w) _ _ _ (λ x. misfit-truths edition call ws ∙ made (all_of truth_of ws) (λ xs. x ∷ xs))

wrong-arguments : (edition : Edition) (call : List ℕ) (kinds : List ArgumentKind) (ws : List (List ℕ)) → is_none (first_wrong edition call kinds ws) ≡ is_some (arguments_in edition kinds ws)
unfolding fits
wrong-arguments edition call [] [] = refl
wrong-arguments edition call [] (w ∷ ws) = refl
wrong-arguments edition call (NameKind ∷ kinds) [] = refl
wrong-arguments edition call (NameKind ∷ kinds) (w ∷ ws) =
    name_step (is_name (longest_name edition) w) w _ _ _ (wrong-arguments edition call kinds ws ∙ made (arguments_in edition kinds ws) _)
wrong-arguments edition call (NumberKind ∷ kinds) [] = refl
wrong-arguments edition call (NumberKind ∷ kinds) (w ∷ ws) = read_step (number_of w) _ _ _ (λ x. wrong-arguments edition call kinds ws ∙ made (arguments_in edition kinds ws) _)
wrong-arguments edition call (TruthKind ∷ kinds) [] = refl
wrong-arguments edition call (TruthKind ∷ kinds) (w ∷ ws) = read_step (truth_of w) _ _ _ (λ x. wrong-arguments edition call kinds ws ∙ made (arguments_in edition kinds ws) _)
wrong-arguments edition call (NumbersKind ∷ kinds) ws = misfit-numbers edition call ws ∙ made (all_of number_of ws) _
wrong-arguments edition call (TruthsKind ∷ kinds) ws = misfit-truths edition call ws ∙ made (all_of truth_of ws) _

where_true : {B C : Type 0} (b : Bool) (here : Option C) (bad : C) (there : Option B) → is_none here ≡ is_some there → is_none (cond b here (Some bad)) ≡ is_some (cond b there None)
where_true true here bad there same = same
where_true false here bad there same = refl

where_false : {B C : Type 0} (b : Bool) (here : Option C) (bad : C) (there : Option B) → is_none here ≡ is_some there → is_none (cond b (Some bad) here) ≡ is_some (cond b None there)
where_false true here bad there same = refl
where_false false here bad there same = same

with_target : (edition : Edition) (name : List ℕ) (o : Option Word) (w : List ℕ) (ws : List (List ℕ))
    → is_none (wrong_use edition true (option_map form_of_word o) w ws) ≡ is_some (option_and_then (λ word. targeted edition name word ws) o)
unfolding targeted
with_target edition name None w ws = refl
with_target edition name (Some word) w ws =
    where_true (is_targeted word) _ _ _ (wrong-arguments edition w (kinds_of word) ws ∙ made (arguments_in edition (kinds_of word) ws) _)

no_target : (edition : Edition) (o : Option Word) (w : List ℕ) (ws : List (List ℕ))
    → is_none (wrong_use edition false (option_map form_of_word o) w ws) ≡ is_some (option_and_then (λ word. untargeted edition word ws) o)
unfolding untargeted
no_target edition None w ws = refl
no_target edition (Some word) w ws =
    where_false (is_targeted word) _ _ _ (wrong-arguments edition w (kinds_of word) ws ∙ made (arguments_in edition (kinds_of word) ws) _)

glued : (t : Bool) (bad : Wrong) (edition : Edition) (o : Option Word) (w : List ℕ) (ws : List (List ℕ))
    → is_none (cond (t && is_none o) (Some bad) (wrong_use edition false (option_map form_of_word o) w ws)) ≡ is_some (option_and_then (λ word. untargeted edition word ws) o)
glued true bad edition None w ws = refl
glued true bad edition (Some word) w ws = no_target edition (Some word) w ws
glued false bad edition o w ws = no_target edition o w ws

behind_name : (edition : Edition) (to : List ℕ) (bad : Wrong) (ws : List (List ℕ))
    → is_none (cond (fits edition Name to) (wrong_behind edition true ws) (Some bad)) ≡ is_some (behind_target edition to ws)
unfolding fits wrong_behind behind_target
behind_name edition to bad [] = elim (is_name (longest_name edition) to) as (λ b. is_none (cond b (wrong_behind edition true []) (Some bad)) ≡ false) [ true ↦ refl | false ↦ refl ]
behind_name edition to bad (w ∷ ws) = name_step (is_name (longest_name edition) to) to _ _ _ (with_target edition to (word_of w) w ws)

pub wrong_in-task_in : (edition : Edition) (ws : List (List ℕ)) → is_none (wrong_in edition ws) ≡ is_some (task_in edition ws)
unfolding wrong_in wrong_behind task_in without_target
wrong_in-task_in edition [] = refl
wrong_in-task_in edition (w ∷ []) = no_target edition (word_of w) w []
wrong_in-task_in edition (w ∷ v ∷ ws) =
    choice (same_text v (codes "=")) _ _ _ _ (behind_name edition w _ ws) (glued (has_byte v 61) _ edition (word_of w) w (v ∷ ws))
  where
    choice : {B : Type 0} (b : Bool) (o other : Option Wrong) (p q : Option B) → is_none o ≡ is_some p → is_none other ≡ is_some q → is_none (cond b o other) ≡ is_some (cond b p q)
    choice true o other p q first second = first
    choice false o other p q first second = second

-- a reason is there where something is said
pub none_where : (text : List ℕ) (result : Option Reason) (said : Option Wrong) → Tells result text said → is_none result ≡ is_none said
none_where text None said h = ap is_none (sym h)
none_where text (Some reason) said h = ap is_none (sym h.says)

pub reason_where_no_task : (text : List ℕ) (edition : Edition) (ws : List (List ℕ)) (result : Option Reason) → Tells result text (wrong_in edition ws)
    → is_none result ≡ is_some (task_in edition ws)
reason_where_no_task text edition ws result h = none_where text result (wrong_in edition ws) h ∙ wrong_in-task_in edition ws

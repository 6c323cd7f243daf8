-- Something is wrong with a line exactly where it is not good.
use Rattle.std.proofs.Common.{◌≡◌, ℕ, Bool, true, false, cond, not, ◌&&◌, ◌||◌, eqb, leb, ltb, List, [], ◌∷◌, length, Option, Some, None, refl, ap, ◌∙◌}
use Rattle.std.specs.Prelude.{is_none, is_some, codes}
use Rattle.vector_memory.specs.declared.edition.Edition.TheVariants.{One, Two}
use Rattle.cvl_text.specs.Lines.{task_in}
use Rattle.cvl_text.specs.Words.{words_of}
use Rattle.bad_lines.specs.declared.place.Place.{Place}
use Rattle.bad_lines.specs.declared.place.Place.TheVariants.{First, Outside, Inside}
use Rattle.bad_lines.specs.declared.reason.Reason.{Reason}
use Rattle.bad_lines.specs.declared.reason.Why.TheVariants.{EmptyBlock, FullBlock}
use Rattle.bad_lines.specs.Wrongs.{Tells, Wrong, wrong, wrong_in}
use Rattle.bad_lines.specs.GoodLines.{block_limit, line_limit, caller_named, is_alone, is_comment, is_head_at, is_good_ask, is_good_by, are_good, is_good_line, or_full, told_at, wrong_inside, wrong_ask, wrong_by, wrong_words, wrong_line}
use Rattle.bad_lines.proofs.Grammar.{wrong_in-task_in, none_where}

none-told_at : (place : Place) (o : Option Wrong) → is_none (told_at place o) ≡ is_none o
none-told_at place None = refl
none-told_at place (Some found) = refl

none_or : (b : Bool) (o : Option Wrong) (good : Bool) → is_none o ≡ good → is_none (cond b None o) ≡ (b || good)
none_or true o good same = refl
none_or false o good same = same

bad_or : (b : Bool) (o : Option Wrong) (bad : Wrong) (good : Bool) → is_none o ≡ good → is_none (cond b o (Some bad)) ≡ (b && good)
bad_or true o bad good same = same
bad_or false o bad good same = refl

choice : (b : Bool) (o p : Option Wrong) (first second : Bool) → is_none o ≡ first → is_none p ≡ second → is_none (cond b o p) ≡ cond b first second
choice true o p first second same other = same
choice false o p first second same other = other

none_unless : (b : Bool) (bad : Wrong) → is_none (cond b (Some bad) None) ≡ not b
none_unless true bad = refl
none_unless false bad = refl

none-or_full : (calls : ℕ) (ws : List (List ℕ)) (o : Option Wrong) → is_none (or_full calls ws o) ≡ (ltb calls block_limit && is_none o)
none-or_full calls ws None = elim (ltb calls block_limit) as (λ b. is_none (cond b None (wrong FullBlock [] ws)) ≡ (b && true)) [ true ↦ refl | false ↦ refl ]
none-or_full calls ws (Some found) = elim (ltb calls block_limit) as (λ b. false ≡ (b && false)) [ true ↦ refl | false ↦ refl ]

inside : (own calls : ℕ) (ws : List (List ℕ)) → is_none (wrong_inside own calls ws) ≡ cond (is_alone (codes "}") ws) (not (eqb calls 0)) (ltb calls block_limit && is_some (task_in Two ws))
inside own calls ws =
    let limited : is_none (or_full calls ws (told_at (Inside own calls) (wrong_in Two ws))) ≡ (ltb calls block_limit && is_some (task_in Two ws)) =
    none-or_full calls ws (told_at (Inside own calls) (wrong_in Two ws))
    ∙ ap (λ (good : Bool). ltb calls block_limit && good) (none-told_at (Inside own calls) (wrong_in Two ws) ∙ wrong_in-task_in Two ws) in
    choice (is_alone (codes "}") ws) (cond (eqb calls 0) (wrong EmptyBlock [] ws) None) (or_full calls ws (told_at (Inside own calls) (wrong_in Two ws))) _ _ (none_unless (eqb calls 0) _) limited

ask : (place : Place) (caller : ℕ) (all ws : List (List ℕ)) → is_none (wrong_ask place caller all ws) ≡ is_good_ask place caller ws
unfolding wrong_ask
ask First caller all ws = none-told_at First (wrong_in One ws) ∙ wrong_in-task_in One ws
ask (Outside One) caller all ws = none-told_at (Outside One) (wrong_in One ws) ∙ wrong_in-task_in One ws
ask (Outside Two) caller all ws = none_or (is_alone (codes "{") ws) _ _ (none-told_at (Outside Two) (wrong_in Two ws) ∙ wrong_in-task_in Two ws)
ask (Inside own calls) caller all ws = bad_or (eqb caller own) _ _ _ (inside own calls ws)

asked : (place : Place) (caller : Option ℕ) (w : List ℕ) (ws : List (List ℕ)) → is_none (wrong_by place caller w ws) ≡ is_good_by place caller ws
asked place None w ws = refl
asked place (Some caller) w ws = ask place caller (w ∷ ws) ws

spoken : (place : Place) (ws : List (List ℕ)) → is_none (wrong_words place ws) ≡ are_good place ws
spoken place [] = refl
spoken place (w ∷ ws) = none_or (is_comment w) _ _ (asked place (caller_named w) w ws)

wrong_line-is_good_line : (place : Place) (line : List ℕ) → is_none (wrong_line place line) ≡ is_good_line place line
unfolding wrong_line is_good_line
wrong_line-is_good_line place line =
    none_or (is_head_at place line) _ _ (bad_or (leb (length line) line_limit) _ _ _ (spoken place (words_of line)))

pub reason_where_bad : (place : Place) (line : List ℕ) (result : Option Reason) → Tells result line (wrong_line place line)
    → is_none result ≡ is_good_line place line
reason_where_bad place line result h = none_where line result (wrong_line place line) h ∙ wrong_line-is_good_line place line

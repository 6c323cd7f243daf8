-- Rows of a history show the same once a further call lies whole.
use Rattle.std.proofs.Common.{◌≡◌, ◌≢◌, ◌<◌, ℕ, zero, suc, List, [], ◌∷◌, ◌++◌, map, length, slice_get, refl, ap, ◌∙◌, arith, length-append}
use Rattle.std.proofs.lemmas.List.{map-append}
use Rattle.std.specs.List.{AllByRecursion}
use Rattle.cvl_text.specs.declared.call.Call.{Call}
use Rattle.call_history.specs.declared.kept.Kept.{Kept}
use Rattle.call_history.specs.declared.kept.Kept.TheVariants as kepts
use Rattle.call_history.specs.declared.log.Row.{Row}
use Rattle.call_history.specs.History.{entry_before}
use Rattle.call_history.specs.Kept.{call_of}
use Rattle.call_history.specs.Logs.{found, call_in, entry_in, IsThere, IsKept}

get-before : (xs ys : List Call) (i : ℕ) → i < length xs → slice_get (xs ++ ys) i ≡ slice_get xs i
get-before (x ∷ xs) ys zero within = refl
get-before (x ∷ xs) ys (suc i) within = get-before xs ys i (omega arith)
get-before [] ys i within = absurd (omega arith)

there-before : (whole more : List Call) (kept : Kept) → IsThere whole kept → IsThere (whole ++ more) kept
there-before whole more (kepts.Whole place) there = omega (arith, length-append whole more, there)
there-before whole more other there = tt

call-before : (whole more : List Call) (kept : Kept) → IsThere whole kept → call_in (whole ++ more) kept ≡ call_in whole kept
call-before whole more (kepts.Whole place) there = ap found (get-before whole more place there)
call-before whole more other there = refl

-- a call that does not lie whole is itself
pub call-brief : (whole : List Call) (kept : Kept) → ((place : ℕ) → kept ≢ kepts.Whole place) → call_in whole kept ≡ call_of kept
call-brief whole (kepts.Whole place) not = absurd (not place refl)
call-brief whole other not = refl

pub rows_before : (whole more : List Call) (rows : List Row) → AllByRecursion (IsKept whole) rows → map (entry_in (whole ++ more)) rows ≡ map (entry_in whole) rows
rows_before whole more [] all = refl
rows_before whole more (r ∷ rs) all =
    let one = call-before whole more r.kept all.0 in
    let rest = rows_before whole more rs all.1 in
    cc (ap (λ call. entry_before r.caller r.ticket call r.rest) one, rest)

pub rows_kept : (whole more : List Call) (rows : List Row) (row : Row) → AllByRecursion (IsKept whole) rows → IsKept (whole ++ more) row → AllByRecursion (IsKept (whole ++ more)) (rows ++ row ∷ [])
rows_kept whole more [] row all one = (one, tt)
rows_kept whole more (r ∷ rs) row all one = (there-before whole more r.kept all.0, rows_kept whole more rs row all.1 one)

pub pushed : (whole more new : List Call) (rows longer : List Row) (row : Row) (call : Call) → new ≡ whole ++ more → longer ≡ rows ++ row ∷ []
    → AllByRecursion (IsKept whole) rows → call_in new row.kept ≡ call → map (entry_in new) longer ≡ map (entry_in whole) rows ++ entry_before row.caller row.ticket call row.rest ∷ []
pushed whole more new rows longer row call new_is longer_is all call_is =
    let split = ap (map (entry_in new)) longer_is ∙ map-append (entry_in new) rows (row ∷ []) in
    let before = ap (λ w. map (entry_in w) rows) new_is ∙ rows_before whole more rows all in
    let last = ap (λ c. entry_before row.caller row.ticket c row.rest) call_is in
    split ∙ (ap (λ l. l ++ entry_in new row ∷ []) before ∙ ap (λ e. map (entry_in whole) rows ++ e ∷ []) last)

-- Requests whose callers are 0, 1, 2 and so on in their order: each caller is one of those that there may be, and no two are the same.
use Rattle.std.proofs.Common.{arith, ◌≡◌, ◌≢◌, ℕ, ◌+◌, ◌<◌, ◌≤◌, List, [], ◌∷◌, ◌++◌, length, map, sym, ap, ◌∙◌, add-one, get_or, zero-add}
use Rattle.std.specs.List.{AllByRecursion, AllPairs, range_with_len}
use Rattle.std.proofs.lemmas.List.{get_or-map, length-append, map-append}
use Rattle.std.proofs.lemmas.List.FromFn.{get_or-range_with_len}
use Rattle.call_history.specs.declared.request.Request.{Request}
use Rattle.call_history.specs.Callers.{caller_limit}
use Rattle.batch_flatten.specs.Serving.{caller_of}
use Rattle.batch_flatten.proofs.PlaceLemmas.{range-push}

lawful-from : (rs : List Request) (a : ℕ) → a + length rs ≤ caller_limit → map caller_of rs ≡ range_with_len a (length rs) → AllByRecursion (λ r. r.caller < caller_limit) rs
lawful-from [] a few e = tt
lawful-from (r ∷ rs) a few e =
    let here : caller_of r ≡ a = cc in
    let rest : map caller_of rs ≡ range_with_len (a + 1) (length rs) = cc in
    ((omega arith), lawful-from rs (a + 1) (omega arith) rest)

pub counted-lawful : (rs : List Request) → length rs ≤ caller_limit → map caller_of rs ≡ range_with_len 0 (length rs) → AllByRecursion (λ r. r.caller < caller_limit) rs
counted-lawful rs few e = lawful-from rs 0 (omega arith) e

caller-at : (rs : List Request) (i : ℕ) (d : Request) → i < length rs → map caller_of rs ≡ range_with_len 0 (length rs) → (get_or rs i d).caller ≡ i
caller-at rs i d lt e =
    sym (get_or-map caller_of rs i d 0 lt) ∙ ap (λ l. get_or l i 0) e ∙ get_or-range_with_len 0 (length rs) i 0 lt ∙ zero-add i

pub counted-apart : (rs : List Request) → map caller_of rs ≡ range_with_len 0 (length rs) → AllPairs (λ r s. r.caller ≢ s.caller) rs
counted-apart rs e i j d before within =
    let first = caller-at rs i d (omega arith) e in
    let second = caller-at rs j d within e in
    λ same. absurd (omega (arith, first, second, same))

-- one more of the next caller
pub counted-push : (rs : List Request) (r : Request) → r.caller ≡ length rs → map caller_of rs ≡ range_with_len 0 (length rs)
    → map caller_of (rs ++ r ∷ []) ≡ range_with_len 0 (length (rs ++ r ∷ []))
counted-push rs r next e =
    map-append caller_of rs (r ∷ []) ∙ ap (λ l. l ++ r.caller ∷ []) e ∙ ap (λ (n : ℕ). range_with_len 0 (length rs) ++ n ∷ []) (next ∙ sym (zero-add (length rs)))
    ∙ sym (range-push 0 (length rs)) ∙ ap (range_with_len 0) (sym (add-one (length rs)) ∙ sym (length-append rs (r ∷ [])))

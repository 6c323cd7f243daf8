-- Callers that are opened one after the other, the last one first.
use Rattle.std.proofs.Common.{◌≡◌, ℕ, zero, suc, ◌<◌, List, [], ◌∷◌, ◌++◌, length, map, drop, set, get_or, append_assoc, refl, sym, ap, ◌∙◌, subst, arith}
use Rattle.std.specs.Prelude.{Option, Some}
use Rattle.std.specs.Global.{Box}
use mathlib.Core.List.{map-append}
use lib.ListN.{length-append}
use Rattle.cvl_port.specs.declared.port.Port.{Port}
use Rattle.cvl_c.specs.declared.caller.CallerLine.{CallerLine}
use Rattle.cvl_c.specs.Callers.{IsLineShut, port_on, port_boxed}

drop-set : (cs : List CallerLine) (n : ℕ) (c : CallerLine) → n < length cs → drop n (set cs n c) ≡ c ∷ drop (suc n) cs
drop-set [] n c lt = absurd (omega arith)
drop-set (b ∷ bs) zero c lt = refl
drop-set (b ∷ bs) (suc n) c lt = drop-set bs n c (omega arith)

get_or-set-below : (cs : List CallerLine) (n k : ℕ) (c d : CallerLine) → k < n → get_or (set cs n c) k d ≡ get_or cs k d
get_or-set-below [] n k c d lt = refl
get_or-set-below (b ∷ bs) zero k c d lt = absurd (omega arith)
get_or-set-below (b ∷ bs) (suc n) zero c d lt = refl
get_or-set-below (b ∷ bs) (suc n) (suc k) c d lt = get_or-set-below bs n k c d (omega arith)

-- those in front of a caller that was opened are as shut as they were
pub shut_next : (cs : List CallerLine) (n m : ℕ) (c : CallerLine) → ((k : ℕ) (d : CallerLine) → k < m → IsLineShut (get_or cs k d)) → n < m → (k : ℕ) (d : CallerLine) → k < n → IsLineShut (get_or (set cs n c) k d)
shut_next cs n m c shut few k d lt = subst IsLineShut (sym (get_or-set-below cs n k c d lt)) (shut k d (omega arith))

-- what is to be in the callers
abbrev pub awaited : List (Box Port) → List (Option Port)
awaited boxes = map Some (map port_boxed boxes)

awaited-last : (before : List (Box Port)) (b : Box Port) → awaited (before ++ b ∷ []) ≡ awaited before ++ Some (port_boxed b) ∷ []
awaited-last before b = ap (λ ps. map Some ps) (map-append port_boxed before (b ∷ [])) ∙ map-append Some (map port_boxed before) (port_boxed b ∷ [])

-- one more caller is opened
pub filled_next : (before left : List (Box Port)) (b : Box Port) (cs : List CallerLine) (n : ℕ) (c : CallerLine) (all : List (Option Port))
    → left ≡ before ++ b ∷ [] → n ≡ length before → n < length cs → port_on c ≡ Some (port_boxed b)
    → awaited left ++ map port_on (drop (length left) cs) ≡ all → awaited before ++ map port_on (drop (length before) (set cs n c)) ≡ all
filled_next before left b cs n c all is count lt opened filled =
    let behind : List (Option Port) = map port_on (drop (suc n) cs) in
    let longer : length left ≡ suc n = ap length is ∙ length-append before (b ∷ []) ∙ omega (arith, count) in
    let new : map port_on (drop n (set cs n c)) ≡ Some (port_boxed b) ∷ behind = ap (λ xs. map port_on xs) (drop-set cs n c lt) ∙ ap (λ o. o ∷ behind) opened in
    ap (λ m. awaited before ++ map port_on (drop m (set cs n c))) (sym count) ∙ ap (λ os. awaited before ++ os) new ∙ sym (append_assoc (awaited before) (Some (port_boxed b) ∷ []) behind)
    ∙ ap (λ os. os ++ behind) (sym (awaited-last before b)) ∙ ap (λ bs. awaited bs ++ behind) (sym is)
    ∙ ap (λ m. awaited left ++ map port_on (drop m cs)) (sym longer) ∙ filled

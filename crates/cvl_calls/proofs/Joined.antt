-- What a joined run takes and makes, one call after another (`made-first`, `made-more`), also where one makes what the one before it makes
-- (`made-again`), and of all of them (`items-made`, `vectors-made`, `effects-made`,
-- `replies-made`, `same-made`).
use Rattle.std.proofs.Common.{◌≡◌, ◌∙◌, ◌+◌, ◌<◌, ◌++◌, ◌∷◌, [], ℕ, Global, List, Ok, Result, Some, Vec, ap, arith, length, map, refl, slice_get, suc, sym, take, zero}
use Rattle.std.proofs.lemmas.List.{map_push, take_more}
use Rattle.std.specs.Option.{option_map}
use Rattle.std.proofs.lemmas.Option.{get_or_from_slice_get, slice_get-map}
use Rattle.std.proofs.lemmas.Simd.{map-map}
use Rattle.cvl_text.specs.declared.fault.Fault.{Fault}
use Rattle.cvl_calls.specs.Outcomes.{Effect}

abbrev pub ok : Effect → Result Effect Fault
ok effect = Ok effect

pub made-more : {P X : Type 0} (f : P → X) (done : List P) (p : P) (works : List X) (i : ℕ) → map f done ≡ take i works → slice_get works i ≡ Some (f p) → i < length works → map f (done ++ p ∷ []) ≡ take (i + 1) works
made-more f done p works i so at lt =
    map_push f done p ∙ ap (λ l. l ++ f p ∷ []) so ∙ ap (λ w. take i works ++ w ∷ []) (sym (get_or_from_slice_get works i (f p) (f p) at)) ∙ sym (take_more works i (f p) lt)

pub made-first : {P X : Type 0} (f : P → X) (p : P) (works : List X) → slice_get works 0 ≡ Some (f p) → 0 < length works → map f (p ∷ []) ≡ take 1 works
made-first f p works at lt = made-more f [] p works 0 refl at lt

pub slice_get-take : {X : Type 0} (xs : List X) (n i : ℕ) → i < n → slice_get (take n xs) i ≡ slice_get xs i
slice_get-take xs zero i lt = absurd (omega arith)
slice_get-take [] (suc n) i lt = refl
slice_get-take (x ∷ xs) (suc n) zero lt = refl
slice_get-take (x ∷ xs) (suc n) (suc i) lt = slice_get-take xs n i (omega arith)

pub made-again : {P X : Type 0} (f : P → X) (done : List P) (p : P) (works : List X) (i before : ℕ) → map f done ≡ take i works → i ≡ before + 1 → slice_get done before ≡ Some p → slice_get works i ≡ slice_get works before → slice_get works i ≡ Some (f p)
made-again f done p works i before so next at again =
    again ∙ sym (slice_get-take works i before (omega arith)) ∙ ap (λ l. slice_get l before) (sym so) ∙ slice_get-map f done before ∙ ap (option_map f) at

pub items-made : {P X : Type 0} (store : List X → Effect) (mk : P → List X) (vs : List (Vec X Global)) (ps : List P) (works : List (Result Effect Fault)) → map (λ v. v.items) vs ≡ map mk ps → map (λ p. Ok (store (mk p))) ps ≡ works
    → map (λ v. ok (store v.items)) vs ≡ works
items-made {X = X} store mk vs ps works same makes =
    let said : List X → Result Effect Fault = λ items. ok (store items) in
    sym (map-map said (λ v. v.items) vs) ∙ ap (map said) same ∙ map-map said mk ps ∙ makes

pub vectors-made : {P X : Type 0} (store : List X → Effect) (mk : P → List X) (vs : List (Vec X Global)) (ps : List P) → map (λ v. v.items) vs ≡ map mk ps → map (λ v. store v.items) vs ≡ map (λ p. store (mk p)) ps
vectors-made store mk vs ps same = sym (map-map store (λ v. v.items) vs) ∙ ap (map store) same ∙ map-map store mk ps

pub effects-made : {P : Type 0} (f : P → Effect) (effects : List Effect) (ps : List P) (works : List (Result Effect Fault)) → effects ≡ map f ps → map (λ p. Ok (f p)) ps ≡ works → map (λ effect. Ok effect) effects ≡ works
effects-made f effects ps works same makes = ap (map ok) same ∙ map-map ok f ps ∙ makes

pub replies-made : {P X : Type 0} (say : X → Effect) (mk : P → X) (xs : List X) (ps : List P) (works : List (Result Effect Fault)) → xs ≡ map mk ps → map (λ p. Ok (say (mk p))) ps ≡ works → map (λ effect. Ok effect) (map say xs) ≡ works
replies-made {X = X} say mk xs ps works same makes =
    let said : X → Result Effect Fault = λ x. ok (say x) in
    map-map ok say xs ∙ ap (map said) same ∙ map-map said mk ps ∙ makes

pub same-made : {J : Type 0} (f : J → Effect) (effects : List Effect) (js : List J) → map (λ effect. ok effect) effects ≡ map (λ j. ok (f j)) js → effects ≡ map f js
same-made f [] [] same = refl
same-made f [] (j ∷ js) same = absurd cc
same-made f (e ∷ es) [] same = absurd cc
same-made f (e ∷ es) (j ∷ js) same =
    let here : e ≡ f j = cc in
    let rest : map (λ effect. ok effect) es ≡ map (λ j. ok (f j)) js = cc in
    ap (λ x. x ∷ es) here ∙ ap (λ l. f j ∷ l) (same-made f es js rest)

-- Beginnings of a history.
use Rattle.std.proofs.Common.{◌≡◌, ℕ, zero, suc, ◌≤◌, List, [], ◌∷◌, ◌++◌, length, take, drop, refl, sym, ap, ◌∙◌, arith, append_assoc, append-nil, length-append, length-take, take-append-drop}
use Rattle.call_history.specs.declared.entry.Entry.{Entry}
use Rattle.call_history.specs.History.{Begins}

pub begins_self : (xs : List Entry) → Begins xs xs
begins_self xs = ([], sym (append-nil xs))

pub begins_empty : (xs : List Entry) → Begins [] xs
begins_empty xs = (xs, refl)

pub begins_trans : (xs ys zs : List Entry) → Begins xs ys → Begins ys zs → Begins xs zs
begins_trans xs ys zs p q = (p.0 ++ q.0, q.1 ∙ (ap (λ l. l ++ q.0) p.1 ∙ append_assoc xs p.0 q.0))

pub begins_length : (xs ys : List Entry) → Begins xs ys → length xs ≤ length ys
begins_length xs ys p = omega (arith, ap length p.1 ∙ length-append xs p.0)

-- of two beginnings of one history the shorter begins the longer
pub begins_shorter : (xs ys zs : List Entry) → Begins xs zs → Begins ys zs → length xs ≤ length ys → Begins xs ys
begins_shorter [] ys zs p q le = (ys, refl)
begins_shorter (x ∷ xs) [] zs p q le = absurd (omega arith)
begins_shorter (x ∷ xs) (y ∷ ys) [] p q le = absurd (cc (p.1))
begins_shorter (x ∷ xs) (y ∷ ys) (z ∷ zs) p q le =
    let heads : x ≡ y = cc (p.1, q.1) in
    let rest = begins_shorter xs ys zs (p.0, cc (p.1)) (q.0, cc (q.1)) (omega arith) in
    (rest.0, cc (heads, rest.1))

pub take_begins : (n : ℕ) (xs : List Entry) → Begins (take n xs) xs
take_begins n xs = (drop n xs, sym (take-append-drop n xs))

take_of_longer : (n : ℕ) (xs ys : List Entry) → n ≤ length xs → take n (xs ++ ys) ≡ take n xs
take_of_longer zero xs ys le = refl
take_of_longer (suc n) [] ys le = absurd (omega arith)
take_of_longer (suc n) (x ∷ xs) ys le = ap (λ l. x ∷ l) (take_of_longer n xs ys (omega arith))

-- a beginning of a history stands in each longer one
pub take_grown : (n : ℕ) (xs ys : List Entry) → Begins xs ys → n ≤ length xs → take n ys ≡ take n xs
take_grown n xs ys p le = ap (take n) p.1 ∙ take_of_longer n xs p.0 le

pub length_of_take : (n : ℕ) (xs : List Entry) → n ≤ length xs → length (take n xs) ≡ n
length_of_take n xs le = omega (arith, length-take n xs)

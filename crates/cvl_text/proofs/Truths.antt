-- Small facts on tests and options: what a test that passed says of its parts, and what a look-up that found something found.
use Rattle.std.proofs.Common.{◌≡◌, Bool, true, false, cond, ◌&&◌, find, List, [], ◌∷◌, map, Option, Some, None, refl, sym, subst}
use Rattle.cvl_text.specs.Lines.{◌>>=◌}

pub both : (a b : Bool) → (a && b) ≡ true → (a ≡ true) × (b ≡ true)
both true b e = (refl, e)
both false b e = absurd cc

pub bind_some : {A B : Type 0} (o : Option A) (f : A → Option B) (y : B) → (o >>= f) ≡ Some y → (x : A) × (o ≡ Some x) × (f x ≡ Some y)
bind_some (Some x) f y e = (x, refl, e)
bind_some None f y e = absurd cc

found_by : {A : Type 0} (test : A → Bool) (x y : A) (later : Option A) (t : Bool) → test x ≡ t → cond t (Some x) later ≡ Some y
    → (later ≡ Some y → test y ≡ true) → test y ≡ true
found_by {A} test x y later true was e rest = let same : x ≡ y = cc in subst (λ (z : A). test z ≡ true) same was
found_by test x y later false was e rest = rest e

-- what a search finds passes its test
pub find_some : {A : Type 0} (test : A → Bool) (xs : List A) (y : A) → find test xs ≡ Some y → test y ≡ true
find_some test [] y e = absurd cc
find_some test (x ∷ xs) y e = found_by test x y (find test xs) (test x) refl e (λ later. find_some test xs y later)

same_by : {A B : Type 0} (f g : A → B) (x y : A) (xs : List A) (later : Option A) (t : Bool) → cond t (Some x) later ≡ Some y → f x ∷ map f xs ≡ g x ∷ map g xs
    → (later ≡ Some y → map f xs ≡ map g xs → f y ≡ g y) → f y ≡ g y
same_by f g x y xs later true e all rest = let same : x ≡ y = cc in let here : f x ≡ g x = cc in cc
same_by f g x y xs later false e all rest = rest e cc

-- what two functions make alike of each item of a list, they make alike of the item that a search finds there
pub find_same : {A B : Type 0} (test : A → Bool) (f g : A → B) (xs : List A) (y : A) → find test xs ≡ Some y → map f xs ≡ map g xs → f y ≡ g y
find_same test f g [] y e all = absurd cc
find_same test f g (x ∷ xs) y e all = same_by f g x y xs (find test xs) (test x) e all (λ later others. find_same test f g xs y later others)

-- two options that hold something alike
pub same_options : {A : Type 0} (o p : Option A) → ((x : A) → o ≡ Some x → p ≡ Some x) → ((x : A) → p ≡ Some x → o ≡ Some x) → o ≡ p
same_options (Some x) p there back = sym (there x refl)
same_options None None there back = refl
same_options None (Some x) there back = back x refl

-- A test of each item of a list, one more item at a time: `each_more` and `each_all` carry the loop's flag, `none_more` and `none_all` a number
-- that gathers the bits of those that fail, and `no_other_bit` is the test whether a number is 1.
use Rattle.std.proofs.Common.{◌≡◌, ◌↔◌, ℕ, ◌+◌, ◌<◌, ◌≤◌, List, length, take, get_or, All, IsTrue, Bool, true, false, refl, sym, subst, arith}
use Rattle.std.specs.Prelude.{◌&&◌}
use Rattle.std.specs.Int.Bits.{bit_or, bit_xor, xor_add_and, xor_self}
use Rattle.std.proofs.Math.Dec.{eqb}
use Rattle.std.proofs.lemmas.Bool.{eq-eqb, eqb-true}
use Rattle.std.proofs.lemmas.Nat.{and_le_r, le_or_l, le_or_r}
use Rattle.std.proofs.lemmas.List.{take_all, take-take, get_or-take, length-take}
use Rattle.std.proofs.lemmas.List.Elements.{All-more, All-take}

both : (b c : Bool) → IsTrue (b && c) → IsTrue b × IsTrue c
both true c h = (refl, h)
both false c h = (h, cc)

joined : (b c : Bool) → IsTrue b → IsTrue c → IsTrue (b && c)
joined true c h k = k
joined false c h k = h

neither : (b c : ℕ) → bit_or b c ≡ 0 → (b ≡ 0) × (c ≡ 0)
neither b c h =
    let left = le_or_l b c in
    let right = le_or_r b c in
    (omega arith, omega arith)

none : (b c : ℕ) → b ≡ 0 → c ≡ 0 → bit_or b c ≡ 0
none b c h k = subst (λ n. bit_or n c ≡ 0) (sym h) k

pub no_other_bit : (n : ℕ) → (bit_xor n 1 ≡ 0) ↔ (n ≡ 1)
no_other_bit n = (
  (λ h.
      let all = xor_add_and n 1 in
      let few = and_le_r n 1 in
      omega arith),
  (λ h. subst (λ m. bit_xor m 1 ≡ 0) (sym h) (xor_self 1)),
)

module _ {X : Type 0} (P : X → Type 0) (xs : List X) (i : ℕ) where
  before : All P (take (i + 1) xs) → All P (take i xs)
  before h = subst (All P) (take-take i (i + 1) xs (omega arith)) (All-take P i (take (i + 1) xs) h)

  here : (d : X) → i < length xs → All P (take (i + 1) xs) → P (get_or xs i d)
  here d lt h = let long = length-take (i + 1) xs in subst P (get_or-take (i + 1) xs i d (omega arith)) (h i d (omega arith))

  pub each_more : (b c : Bool) (x d : X) → i < length xs → x ≡ get_or xs i d → IsTrue b ↔ All P (take i xs) → IsTrue c ↔ P x → IsTrue (b && c) ↔ All P (take (i + 1) xs)
  each_more b c x d lt is so_far one = (
    (λ h. All-more P xs i d lt (so_far.0 (both b c h).0) (subst P is (one.0 (both b c h).1))),
    (λ h. joined b c (so_far.1 (before h)) (one.1 (subst P (sym is) (here d lt h)))),
  )

  pub each_all : (b : Bool) → length xs ≤ i → IsTrue b ↔ All P (take i xs) → IsTrue b ↔ All P xs
  each_all b past h = subst (λ (ys : List X). IsTrue b ↔ All P ys) (take_all i xs past) h

  pub none_more : (b c : ℕ) (x d : X) → i < length xs → x ≡ get_or xs i d → (b ≡ 0) ↔ All P (take i xs) → (c ≡ 0) ↔ P x
      → (bit_or b c ≡ 0) ↔ All P (take (i + 1) xs)
  none_more b c x d lt is so_far one = (
    (λ h. All-more P xs i d lt (so_far.0 (neither b c h).0) (subst P is (one.0 (neither b c h).1))),
    (λ h. none b c (so_far.1 (before h)) (one.1 (subst P (sym is) (here d lt h)))),
  )

  pub none_all : (b : ℕ) → length xs ≤ i → (b ≡ 0) ↔ All P (take i xs) → IsTrue (eqb b 0) ↔ All P xs
  none_all b past h =
      let all : (b ≡ 0) ↔ All P xs = subst (λ (ys : List X). (b ≡ 0) ↔ All P ys) (take_all i xs past) h in
      ((λ t. all.0 (eqb-true b 0 t)), (λ t. eq-eqb b 0 (all.1 t)))

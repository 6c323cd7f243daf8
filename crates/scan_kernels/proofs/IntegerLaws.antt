-- The operations that scan integers are associative and have a unit, on values of the type.
use Rattle.std.specs.Prelude.{true, false, cond, int_lt, ℕ, ◌≡◌, ◌<◌, ◌^◌, ◌-◌, ◌%◌, ◌+◌, ◌*◌, ℤ, FitsSigned, bit_and, bit_or, bit_xor}
use Rattle.std.specs.Int.{w64, cast_signed, cast_unsigned}
use Rattle.std.proofs.Common.{sym, ap, ◌∙◌, arith, refl, rules}
use Rattle.std.proofs.Math.Facts.{sfits_to_z}
use native.Mathlib.Nat.{mod-add-mod, add-mod-mod, add_assoc, mul_assoc}
use Rattle.std.proofs.lemmas.Int.{ints, clamps, to_z-of_z, of_z-to_z}
use Rattle.std.proofs.lemmas.Nat.{or_lt, xor_lt, and_le_l, and_mask, and_comm, xor_comm, mul-mod_first, mul-mod_second}
use Rattle.std.specs.Int.Bits.{or_zero_r, or_zero_l}
use Rattle.std.proofs.lemmas.Nat.Bits.{same_from_bits, bit_at_and, bit_at_or}
use Rattle.std.specs.Int.Bits.{xor_assoc}
use Rattle.item_operations.specs.IntegerScans.{combine_z, unit_z}
use Rattle.item_operations.specs.declared.combine.ScanZ.{ScanZ}
use Rattle.item_operations.specs.declared.combine.ScanZ.TheVariants.{Add, Mul, Max, Min, And, Ior, Xor}

and_assoc : (a b c : ℕ) → bit_and (bit_and a b) c ≡ bit_and a (bit_and b c)
and_assoc a b c = same_from_bits _ _ (λ i. simp bit_at_and (omega arith))

or_assoc : (a b c : ℕ) → bit_or (bit_or a b) c ≡ bit_or a (bit_or b c)
or_assoc a b c = same_from_bits _ _ (λ i. simp bit_at_or (omega arith))

below : (n : ℕ) → n % 2 ^ 64 < 2 ^ 64
below n = omega arith

and_below : (a b : ℕ) → a < 2 ^ 64 → b < 2 ^ 64 → bit_and a b < 2 ^ 64
and_below a b h k = omega (arith, and_le_l a b)

cast_unsigned-lt : (x : ℤ) → FitsSigned w64 x → cast_unsigned w64 x < 2 ^ 64
cast_unsigned-lt x f = omega (arith, ints)

-- an operation on the bits is as associative on the integers
bits_assoc : (f : ℕ → ℕ → ℕ) → ((a b : ℕ) → a < 2 ^ 64 → b < 2 ^ 64 → f a b < 2 ^ 64) → ((a b c : ℕ) → f (f a b) c ≡ f a (f b c))
    → (x y z : ℤ) → FitsSigned w64 x → FitsSigned w64 y → FitsSigned w64 z
    → cast_signed w64 (f (cast_unsigned w64 (cast_signed w64 (f (cast_unsigned w64 x) (cast_unsigned w64 y)))) (cast_unsigned w64 z))
    ≡ cast_signed w64 (f (cast_unsigned w64 x) (cast_unsigned w64 (cast_signed w64 (f (cast_unsigned w64 y) (cast_unsigned w64 z)))))
bits_assoc f below assoc x y z p q r =
    let a = cast_unsigned w64 x in
    let b = cast_unsigned w64 y in
    let c = cast_unsigned w64 z in
    let left = of_z-to_z w64 (f a b) (below a b (cast_unsigned-lt x p) (cast_unsigned-lt y q)) in
    let right = of_z-to_z w64 (f b c) (below b c (cast_unsigned-lt y q) (cast_unsigned-lt z r)) in
    ap (λ n. cast_signed w64 (f n c)) left ∙ ap (cast_signed w64) (assoc a b c) ∙ ap (λ n. cast_signed w64 (f a n)) (sym right)

pub combine_z-assoc : (op : ScanZ) (x y z : ℤ) → FitsSigned w64 x → FitsSigned w64 y → FitsSigned w64 z → combine_z op (combine_z op x y) z ≡ combine_z op x (combine_z op y z)
combine_z-assoc Add x y z p q r =
    bits_assoc (λ a b. (a + b) % 2 ^ 64) (λ a b h k. below (a + b))
    (λ a b c. mod-add-mod (a + b) (2 ^ 64) c ∙ ap (λ n. n % 2 ^ 64) (add_assoc a b c) ∙ sym (add-mod-mod a (b + c) (2 ^ 64))) x y z p q r
combine_z-assoc Mul x y z p q r =
    bits_assoc (λ a b. (a * b) % 2 ^ 64) (λ a b h k. below (a * b))
    (λ a b c. mul-mod_first (a * b) c (2 ^ 64) ∙ ap (λ n. n % 2 ^ 64) (mul_assoc a b c) ∙ sym (mul-mod_second a (b * c) (2 ^ 64))) x y z p q r
combine_z-assoc Max x y z p q r = omega (arith, ints, clamps)
combine_z-assoc Min x y z p q r = omega (arith, ints, clamps)
combine_z-assoc And x y z p q r = bits_assoc bit_and and_below and_assoc x y z p q r
combine_z-assoc Ior x y z p q r = bits_assoc bit_or (or_lt 64) or_assoc x y z p q r
combine_z-assoc Xor x y z p q r = bits_assoc bit_xor (xor_lt 64) xor_assoc x y z p q r

-- bits that are those of x
bits_of : (x : ℤ) (n : ℕ) → FitsSigned w64 x → n ≡ cast_unsigned w64 x → cast_signed w64 n ≡ x
bits_of x n p e = ap (cast_signed w64) e ∙ to_z-of_z w64 x p

pub combine_z-unit : (op : ScanZ) (x : ℤ) → FitsSigned w64 x → combine_z op x (unit_z op) ≡ x
combine_z-unit Add x p = bits_of x _ p (let h = cast_unsigned-lt x p in omega arith)
combine_z-unit Mul x p = bits_of x _ p (let h = cast_unsigned-lt x p in omega arith)
combine_z-unit Max x p = omega (arith, ints, clamps)
combine_z-unit Min x p = omega (arith, ints, clamps)
combine_z-unit And x p = bits_of x _ p (let h = cast_unsigned-lt x p in let m = and_mask (cast_unsigned w64 x) 64 in omega arith)
combine_z-unit Ior x p = bits_of x _ p (or_zero_r (cast_unsigned w64 x))
combine_z-unit Xor x p = bits_of x _ p (xor_comm (cast_unsigned w64 x) 0)

pub combine_z-left_unit : (op : ScanZ) (x : ℤ) → FitsSigned w64 x → combine_z op (unit_z op) x ≡ x
combine_z-left_unit Add x p = bits_of x _ p (let h = cast_unsigned-lt x p in omega arith)
combine_z-left_unit Mul x p = bits_of x _ p (let h = cast_unsigned-lt x p in omega arith)
combine_z-left_unit Max x p = omega (arith, ints, clamps)
combine_z-left_unit Min x p = omega (arith, ints, clamps)
combine_z-left_unit And x p = bits_of x _ p (let h = cast_unsigned-lt x p in let m = and_mask (cast_unsigned w64 x) 64 in and_comm (2 ^ 64 - 1) (cast_unsigned w64 x) ∙ (omega arith))
combine_z-left_unit Ior x p = bits_of x _ p (or_zero_l (cast_unsigned w64 x))
combine_z-left_unit Xor x p = bits_of x _ p refl

FitsSigned-cast_signed : (n : ℕ) → n < 2 ^ 64 → FitsSigned w64 (cast_signed w64 n)
FitsSigned-cast_signed n h = sfits_to_z {w = w64} {n = n} (search rules)

pub FitsSigned-combine_z : (op : ScanZ) (x y : ℤ) → FitsSigned w64 x → FitsSigned w64 y → FitsSigned w64 (combine_z op x y)
FitsSigned-combine_z Add x y p q = FitsSigned-cast_signed _ (below (cast_unsigned w64 x + cast_unsigned w64 y))
FitsSigned-combine_z Mul x y p q = FitsSigned-cast_signed _ (below (cast_unsigned w64 x * cast_unsigned w64 y))
FitsSigned-combine_z Max x y p q = elim (int_lt y x) as (λ b. FitsSigned w64 (cond b x y)) [ true ↦ p | false ↦ q ]
FitsSigned-combine_z Min x y p q = elim (int_lt y x) as (λ b. FitsSigned w64 (cond b y x)) [ true ↦ q | false ↦ p ]
FitsSigned-combine_z And x y p q = FitsSigned-cast_signed _ (and_below _ _ (cast_unsigned-lt x p) (cast_unsigned-lt y q))
FitsSigned-combine_z Ior x y p q = FitsSigned-cast_signed _ (or_lt 64 _ _ (cast_unsigned-lt x p) (cast_unsigned-lt y q))
FitsSigned-combine_z Xor x y p q = FitsSigned-cast_signed _ (xor_lt 64 _ _ (cast_unsigned-lt x p) (cast_unsigned-lt y q))

pub FitsSigned-unit_z : (op : ScanZ) → FitsSigned w64 (unit_z op)
FitsSigned-unit_z Add = search rules
FitsSigned-unit_z Mul = search rules
FitsSigned-unit_z Max = search rules
FitsSigned-unit_z Min = search rules
FitsSigned-unit_z And = search rules
FitsSigned-unit_z Ior = search rules
FitsSigned-unit_z Xor = search rules

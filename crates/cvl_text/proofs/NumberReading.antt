-- What a text says of the number that it writes: `IsNoDecimal` and its kin, led over to `number_of`.
use Rattle.std.proofs.Common.{◌≡◌, ℕ, zero, suc, ◌<◌, ◌≤◌, ◌^◌, Bool, true, false, cond, ◌&&◌, List, ◌∷◌, length, get_or, Option, Some, None, ℤ, pos, negsuc, refl, sym, ap, ◌∙◌, subst, arith}
use Rattle.std.specs.Prelude.{MatchOption}
use Rattle.std.specs.Fmt.{decimal, signed_decimal}
use Rattle.std.specs.Str.Parse.{AllDigits, digits_value, signed_digits_value, starts_with_minus}
use Rattle.std.specs.Cmp.Lexicographic as texts
use Rattle.std.proofs.lemmas.Fmt.{decimal_is_IsNumeral, decimal_digit, first_decimal, length-decimal-le, decimal-digits_value, decimal_injective}
use Rattle.std.proofs.lemmas.Int.Digits.{digits_value-lt}
use Rattle.std.proofs.lemmas.Str.Parse.{numerals_by_value, tells_digits}
use Rattle.std.proofs.Math.Nat.{pow-le-pow_right}
use Rattle.cvl_text.specs.Numbers.{is_in_range, number_of, IsNoDecimal, IsShort}
use Rattle.cvl_text.specs.Words.{same_text}
use Rattle.cvl_text.proofs.NumberTexts.{mag-in_range, number_of-signed_decimal}

-- a value of at most 18 digits has room for one more
pub small-pow : (i : ℕ) → i ≤ 18 → 10 ^ i ≤ 10 ^ 18
small-pow i le = pow-le-pow_right {n = 10} (omega arith) le

lead-decimal : (n : ℕ) → n < 2 ^ 64 → get_or (decimal n) 0 0 ≡ 48 → length (decimal n) ≡ 1
lead-decimal zero h e = ap length (decimal_digit 0 (omega arith))
lead-decimal (suc n) h e = absurd (omega (arith, first_decimal (suc n) (omega arith) h))

IsShort-decimal : (n : ℕ) → n < 10 ^ 19 → IsShort (decimal n)
IsShort-decimal n h =
    let small : n < 2 ^ 64 = omega arith in
    record { some = (decimal_is_IsNumeral n small).0.0; few = length-decimal-le 19 n (omega arith) h small; lead = lead-decimal n small }

pub IsNoDecimal-long : (text : List ℕ) → (IsShort text → ⊥) → IsNoDecimal text
IsNoDecimal-long text long n h e = long (subst IsShort (sym e) (IsShort-decimal n h))

decimal-digits : (text : List ℕ) → IsShort text → AllDigits 10 text → text ≡ decimal (digits_value 10 text)
decimal-digits text short all =
    let below = digits_value-lt 10 text all in
    let most = pow-le-pow_right {n = 10} (omega arith) short.few in
    sym (decimal-digits_value (numerals_by_value _ tells_digits) text all short.some short.lead (omega arith))

-- the value of digits, or none, is the magnitude of a short text
pub magnitude-digits : (r : Option ℕ) (text : List ℕ) → IsShort text → MatchOption r (AllDigits 10 text → ⊥) (λ n. AllDigits 10 text × (n ≡ digits_value 10 text))
    → MatchOption r (IsNoDecimal text) (λ n. text ≡ decimal n)
magnitude-digits None text short h = λ n lt e. h (subst (AllDigits 10) (sym e) (decimal_is_IsNumeral n (omega arith)).0.1)
magnitude-digits (Some n) text short h = decimal-digits text short h.0 ∙ ap decimal (sym h.1)

none_by : (text : List ℕ) (z : ℤ) (a b : Bool) → is_in_range z ≡ a → same_text (signed_decimal z) text ≡ b → (is_in_range z ≡ true → text ≡ signed_decimal z → ⊥) → cond (a && b) (Some z) None ≡ None
none_by text z true true e f never = absurd (never e (sym (texts.same_text (signed_decimal z) text (sym f))))
none_by text z true false e f never = refl
none_by text z false b e f never = refl

-- what is no number's spelling
number_of-none : (text : List ℕ) → ((z : ℤ) → is_in_range z ≡ true → text ≡ signed_decimal z → ⊥) → number_of text ≡ None
number_of-none text never =
    let z = signed_digits_value 10 text in
    none_by text z (is_in_range z) (same_text (signed_decimal z) text) refl refl (never z)

minus-false : (text ds : List ℕ) → starts_with_minus text ≡ false → text ≡ 45 ∷ ds → ⊥
minus-false text ds h e = let k : true ≡ false = subst (λ (t : List ℕ). starts_with_minus t ≡ false) e h in cc

decimal-no_minus : (n : ℕ) (ds : List ℕ) → n < 2 ^ 64 → 45 ∷ ds ≡ decimal n → ⊥
decimal-no_minus n ds h e = let k = subst (AllDigits 10) (sym e) (decimal_is_IsNumeral n h).0.1 in omega (arith, k.0)

-- a text without a sign: of no number, of one, of one past the greatest
unsigned-never : (text : List ℕ) → starts_with_minus text ≡ false → ((n : ℕ) → n < 2 ^ 63 → text ≡ decimal n → ⊥) → number_of text ≡ None
unsigned-never text h never = number_of-none text by
  where
    by : (z : ℤ) → is_in_range z ≡ true → text ≡ signed_decimal z → ⊥
    by (pos n) r e = never n (mag-in_range (pos n) r) e
    by (negsuc n) r e = minus-false text (decimal (suc n)) h e

pub unsigned-none : (text : List ℕ) → starts_with_minus text ≡ false → IsNoDecimal text → number_of text ≡ None
unsigned-none text h never = unsigned-never text h (λ n lt e. never n (omega arith) e)

pub unsigned-some : (text : List ℕ) (n : ℕ) → text ≡ decimal n → is_in_range (pos n) ≡ true → number_of text ≡ Some (pos n)
unsigned-some text n e r = ap number_of e ∙ number_of-signed_decimal (pos n) r

pub unsigned-great : (text : List ℕ) (n : ℕ) → starts_with_minus text ≡ false → text ≡ decimal n → n < 2 ^ 64 → 2 ^ 63 ≤ n → number_of text ≡ None
unsigned-great text n h e small great = unsigned-never text h (λ m lt f. let same = decimal_injective n m small (omega arith) (sym e ∙ f) in omega arith)

-- a text after a minus
negative-never : (ds : List ℕ) → ((n : ℕ) → n < 2 ^ 63 → ds ≡ decimal (suc n) → ⊥) → number_of (45 ∷ ds) ≡ None
negative-never ds never = number_of-none (45 ∷ ds) by
  where
    by : (z : ℤ) → is_in_range z ≡ true → 45 ∷ ds ≡ signed_decimal z → ⊥
    by (pos n) r e = let lt = mag-in_range (pos n) r in decimal-no_minus n ds (omega arith) e
    by (negsuc n) r e = let lt = mag-in_range (negsuc n) r in let same : ds ≡ decimal (suc n) = cc in never n lt same

pub negative-none : (ds : List ℕ) → IsNoDecimal ds → number_of (45 ∷ ds) ≡ None
negative-none ds never = negative-never ds (λ n lt e. never (suc n) (omega arith) e)

pub negative-some : (ds : List ℕ) (n : ℕ) → ds ≡ decimal (suc n) → is_in_range (negsuc n) ≡ true → number_of (45 ∷ ds) ≡ Some (negsuc n)
negative-some ds n e r = ap (λ (t : List ℕ). number_of (45 ∷ t)) e ∙ number_of-signed_decimal (negsuc n) r

pub negative-zero : (ds : List ℕ) (n : ℕ) → ds ≡ decimal n → n ≡ 0 → number_of (45 ∷ ds) ≡ None
negative-zero ds n e zero_is = negative-never ds (λ m lt f. let same = decimal_injective n (suc m) (omega arith) (omega arith) (sym e ∙ f) in omega arith)

pub negative-great : (ds : List ℕ) (n : ℕ) → ds ≡ decimal n → n < 2 ^ 64 → 2 ^ 63 < n → number_of (45 ∷ ds) ≡ None
negative-great ds n e small great = negative-never ds (λ m lt f. let same = decimal_injective n (suc m) small (omega arith) (sym e ∙ f) in omega arith)

-- Numbers and their texts: a number reads from its text, `number_of-signed_decimal`, from no other, `signed_decimal-read`,
-- and its text is a word, `IsWord-number`.
use Rattle.std.proofs.Common.{◌≡◌, ℕ, suc, ◌<◌, ◌^◌, true, false, eqb, not, ◌&&◌, List, [], ◌∷◌, length, Some, ℤ, pos, negsuc, refl, sym, ap, ◌∙◌, subst, arith}
use Rattle.std.specs.Prelude.{neg_ℤ, codes}
use Rattle.std.specs.Char.{digit_value}
use Rattle.std.specs.Fmt.{decimal, signed_decimal}
use Rattle.std.specs.Int.Signed.{mag}
use Rattle.std.specs.Str.Parse.{AllDigits, IsNumeral, digits_value, signed_digits_value}
use Rattle.std.specs.Cmp.Lexicographic as texts
use Rattle.std.proofs.lemmas.Bool.{and_from, ltb-true, ne_eqb}
use Rattle.std.proofs.lemmas.Fmt.{decimal_is_IsNumeral}
use Rattle.std.proofs.lemmas.Option.{cond_some}
use Rattle.cvl_text.specs.Numbers.{is_in_range, number_of}
use Rattle.cvl_text.specs.Words.{same_text, is_filled}
use Rattle.cvl_text.proofs.Spaced.{IsWord, is_solid}
use Rattle.cvl_text.proofs.Truths.{both}

pub mag-in_range : (z : ℤ) → is_in_range z ≡ true → mag z < 2 ^ 63
mag-in_range (pos n) e = ltb-true _ _ e
mag-in_range (negsuc n) e = ltb-true _ _ e

-- a byte that is no digit is none of the digits
not_digit : (c b : ℕ) → digit_value c < 10 → (digit_value b < 10 → ⊥) → eqb c b ≡ false
not_digit c b h never = ne_eqb c b (λ e. never (subst (λ (x : ℕ). digit_value x < 10) e h))

signed_digits_value-numeral : (ds : List ℕ) → IsNumeral 10 ds → signed_digits_value 10 ds ≡ pos (digits_value 10 ds)
signed_digits_value-numeral [] h = absurd (omega arith)
signed_digits_value-numeral (c ∷ cs) h = rw (not_digit c 45 h.1.0 (λ k. omega arith), not_digit c 43 h.1.0 (λ k. omega arith)) refl

signed_digits_value-signed_decimal : (z : ℤ) → mag z < 2 ^ 63 → signed_digits_value 10 (signed_decimal z) ≡ z
signed_digits_value-signed_decimal (pos n) h =
    let k = decimal_is_IsNumeral n (omega arith) in
    signed_digits_value-numeral (decimal n) k.0 ∙ ap pos k.1
signed_digits_value-signed_decimal (negsuc n) h =
    let k = decimal_is_IsNumeral (suc n) (omega arith) in
    ap (λ (m : ℕ). neg_ℤ (pos m)) k.1

same_text-refl : (text : List ℕ) → same_text text text ≡ true
same_text-refl text = (texts.bytes_decides text text).1 refl

-- the number that a text writes has that text
pub signed_decimal-read : (text : List ℕ) (z : ℤ) → number_of text ≡ Some z → (is_in_range z ≡ true) × (signed_decimal z ≡ text)
signed_decimal-read text z e =
    let read = cond_some (is_in_range (signed_digits_value 10 text) && same_text (signed_decimal (signed_digits_value 10 text)) text) (signed_digits_value 10 text) z e in
    let parts = both _ _ read.0 in (
      subst (λ (y : ℤ). is_in_range y ≡ true) read.1 parts.0,
      texts.same_text (signed_decimal z) text (subst (λ (y : ℤ). true ≡ same_text (signed_decimal y) text) read.1 (sym parts.1)),
    )

pub number_of-signed_decimal : (z : ℤ) → is_in_range z ≡ true → number_of (signed_decimal z) ≡ Some z
number_of-signed_decimal z e = rw (signed_digits_value-signed_decimal z (mag-in_range z e), e, same_text-refl (signed_decimal z)) refl

digits-solid : (ds : List ℕ) → AllDigits 10 ds → is_solid ds ≡ true
digits-solid [] h = refl
digits-solid (c ∷ cs) h = and_from _ _ (ap not (not_digit c 32 h.0 (λ k. omega arith))) (digits-solid cs h.1)

filled : (ds : List ℕ) → 0 < length ds → is_filled ds ≡ true
filled [] h = absurd (omega arith)
filled (c ∷ cs) h = refl

pub IsWord-number : (z : ℤ) → is_in_range z ≡ true → IsWord (signed_decimal z)
IsWord-number (pos n) e =
    let k = (decimal_is_IsNumeral n (omega (arith, mag-in_range (pos n) e))).0 in
    record { filled = filled (decimal n) k.0; solid = digits-solid (decimal n) k.1 }
IsWord-number (negsuc n) e =
    let k = (decimal_is_IsNumeral (suc n) (omega (arith, mag-in_range (negsuc n) e))).0 in
    record { filled = refl; solid = digits-solid (decimal (suc n)) k.1 }

digits-not_equals : (ds : List ℕ) → AllDigits 10 ds → ds ≡ codes "=" → ⊥
digits-not_equals ds h e = let k = subst (AllDigits 10) e h in omega (arith, k.0)

minus-not_equals : (ds : List ℕ) → 45 ∷ ds ≡ codes "=" → ⊥
minus-not_equals ds e = cc

equals_is_no_number : (z : ℤ) → mag z < 2 ^ 63 → signed_decimal z ≡ codes "=" → ⊥
equals_is_no_number (pos n) h e = digits-not_equals (decimal n) (decimal_is_IsNumeral n (omega arith)).0.1 e
equals_is_no_number (negsuc n) h e = minus-not_equals (decimal (suc n)) e

-- `=` is no number
pub number_of-equals : (z : ℤ) → number_of (codes "=") ≡ Some z → ⊥
number_of-equals z e = let read = signed_decimal-read (codes "=") z e in equals_is_no_number z (mag-in_range z read.0) read.1

-- Texts that write no number.
use Rattle.std.proofs.Common.{◌≡◌, ℕ, false, List, Option, Some, None, ℤ, pos, negsuc, w64, FitsSigned, refl, sym, rules}
use Rattle.std.specs.Prelude.{is_some, Result, Err, true}
use Rattle.std.specs.Str.{IsUtf8}
use Rattle.std.specs.Str.Parse.{ParsesSigned}
use Rattle.std.proofs.Common.{subst}
use Rattle.std.proofs.lemmas.Str.{IsUtf8-from_ascii}
use Rattle.std.proofs.lemmas.Int.{ints}
use Rattle.std.proofs.lemmas.Fmt.{IsAscii-signed, parse-signed_decimal}
use Rattle.cvl_text.specs.Numbers.{is_in_range, number_of}
use Rattle.cvl_text.proofs.NumberTexts.{mag-in_range, signed_decimal-read}

none_by : (o : Option ℤ) → ((z : ℤ) → o ≡ Some z → ⊥) → false ≡ is_some o
none_by None never = refl
none_by (Some z) never = absurd (never z refl)

-- one that is no text
pub no_number-no_text : (text : List ℕ) → (IsUtf8 text → ⊥) → false ≡ is_some (number_of text)
no_number-no_text text never = none_by (number_of text) (λ z e.
    let read = signed_decimal-read text z e in
    never (subst IsUtf8 read.1 (IsUtf8-from_ascii _ (IsAscii-signed z (mag-in_range z read.0)))))

fits : (z : ℤ) → is_in_range z ≡ true → FitsSigned w64 z
fits (pos n) e = let small = mag-in_range (pos n) e in search (rules, ints)
fits (negsuc n) e = let small = mag-in_range (negsuc n) e in search (rules, ints)

-- one that does not parse
pub no_number-unread : {E : Type 0} (text : List ℕ) (r : Result ℤ E) (fault : E) → r ≡ Err fault → ParsesSigned w64 10 text r → false ≡ is_some (number_of text)
no_number-unread text r fault is parses = none_by (number_of text) (λ z e.
    let read = signed_decimal-read text z e in
    let same = parse-signed_decimal w64 z text r (fits z read.0) (mag-in_range z read.0) (sym read.1) parses in cc)

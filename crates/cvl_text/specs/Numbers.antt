-- Numbers as they are written: in decimal, with `-` where below 0, and in no other way.
use Rattle.std.specs.Prelude.{◌≡◌, ℕ, ◌<◌, ◌≤◌, ◌^◌, ℤ, pos, negsuc, Bool, ◌&&◌, nat_lt, slice_index, length, List, Option, Some, None, if◌then◌else◌}
use Rattle.std.specs.Fmt.{decimal, signed_decimal}
use Rattle.std.specs.Str.Parse.{signed_digits_value}
use Rattle.cvl_text.specs.Words.{same_text}

-- in the range of 64 bits with a sign
abbrev pub is_in_range : ℤ → Bool
is_in_range (pos n) = nat_lt n 0x8000_0000_0000_0000
is_in_range (negsuc n) = nat_lt n 0x8000_0000_0000_0000

-- the number in range whose decimal spelling the text is
abbrev pub number_of : List ℕ → Option ℤ
number_of text =
    let z = signed_digits_value 10 text in
    if is_in_range z && same_text (signed_decimal z) text then Some z else None

-- the decimal spelling of no number of at most 19 digits
abbrev pub IsNoDecimal : List ℕ → Type 0
IsNoDecimal text = (n : ℕ) → n < 10 ^ 19 → text ≡ decimal n → ⊥

-- one to nineteen bytes, and no zero in front of others
pub record IsShort (text : List ℕ) : Type 0 where
  pub some : 0 < length text
  pub few : length text ≤ 19
  pub lead : slice_index text 0 ≡ 48 → length text ≡ 1

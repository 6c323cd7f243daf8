use Rattle.std.proofs.Common.{◌≡◌, ◌<◌, ◌^◌, drop}
use Rattle.std.specs.Str.Parse.{AllDigits, digits_value, digits_value_after}
use Rattle.cvl_text.proofs.number.digits.Given as goal

abbrev pub invariant-loop-byte : goal.invariant-loop-byte
invariant-loop-byte l = record {
  value : digits_value_after 10 l.value (drop l.byte-index l.text) ≡ digits_value 10 l.text;
  later : AllDigits 10 l.text → AllDigits 10 (drop l.byte-index l.text);
  all : AllDigits 10 (drop l.byte-index l.text) → AllDigits 10 l.text;
  small : l.value < 10 ^ l.byte-index;
}

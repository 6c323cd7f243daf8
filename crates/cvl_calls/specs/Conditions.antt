-- What the shapes of calls ask of their operands together, with the fault where it does not hold.
use Rattle.std.specs.Prelude.{ℕ, ℤ, pos, negsuc, Bool, false, not, ◌&&◌, List, length, sum, Option, Some, None, Result, Ok, Err, nat_lt, ◌==◌, int_le, int_lt}
use Rattle.std.specs.List.{list_all, range_with_len, zip}
use Rattle.std.specs.Ordering.{int_eq}
use Rattle.segment_desc.specs.Cut.{cut}
use Rattle.item_operations.specs.declared.operation.Z2.{Z2}
use Rattle.item_operations.specs.declared.operation.Z2.TheVariants.{Div, Mod, Lsh, Rsh}
use Rattle.scan_kernels.specs.Indices.{times_held}
use Rattle.cvl_text.specs.declared.fault.Fault.{Fault}
use Rattle.cvl_text.specs.declared.fault.Fault.TheVariants.{WrongLength, BadSegments, ZeroDivisor, BadShift}
use Rattle.cvl_calls.specs.Outcomes.{check}

-- two vectors are as long as one another
abbrev pub same_length : ℕ → ℕ → Result (Unit {0}) Fault
same_length m n = check (m == n) WrongLength

-- the segments have all n items together
abbrev pub has_all : List ℕ → ℕ → Result (Unit {0}) Fault
has_all ls n = check (sum ls == n) BadSegments

-- there is a segment for each of n items
abbrev pub has_each : List ℕ → ℕ → Result (Unit {0}) Fault
has_each ls n = check (length ls == n) BadSegments

abbrev pub is_divisor : ℤ → Bool
is_divisor y = not (int_eq y (pos 0))

-- a number of places to shift by, 0 to 63
abbrev pub is_shift : ℤ → Bool
is_shift y = int_le (pos 0) y && int_lt y (pos 64)

-- any second operands will do
abbrev pub any_seconds : {X : Type 0} → List X → Result (Unit {0}) Fault
any_seconds ys = Ok tt

-- the second operands are ones that the operation takes
abbrev pub seconds : Z2 → List ℤ → Result (Unit {0}) Fault
seconds Div ys = check (list_all is_divisor ys) ZeroDivisor
seconds Mod ys = check (list_all is_divisor ys) ZeroDivisor
seconds Lsh ys = check (list_all is_shift ys) BadShift
seconds Rsh ys = check (list_all is_shift ys) BadShift
seconds op ys = Ok tt

-- a place of a list of n items, counted from 0
abbrev pub is_place : ℕ → ℤ → Bool
is_place n (pos p) = nat_lt p n
is_place n (negsuc p) = false

-- each place of the index's own stands in it once
abbrev pub holds_each_place : List ℤ → Bool
holds_each_place index = list_all (λ p. times_held p index == 1) (range_with_len 0 (length index))

-- the same in each segment
abbrev pub permutes : List ℕ → List ℤ → Bool
permutes ls index = list_all holds_each_place (cut ls index)

-- each segment of the index, by the lengths ts, holds places of the segment of its number, by the lengths ss
abbrev pub lies_within : List ℕ → List ℕ → List ℤ → Bool
lies_within ss ts index = list_all (λ p. list_all (is_place p.0) p.1) (zip ss (cut ts index))

-- the item that is there, or the fault
abbrev pub found : {X : Type 0} → Option X → Fault → Result X Fault
found (Some x) fault = Ok x
found None fault = Err fault

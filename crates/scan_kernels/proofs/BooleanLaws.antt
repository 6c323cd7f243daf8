-- The operations that scan truth values are associative and have a unit.
use Rattle.std.specs.Prelude.{◌≡◌, Bool, true, false}
use Rattle.std.proofs.Common.{refl}
use Rattle.item_operations.specs.BooleanScans.{combine_b, unit_b}
use Rattle.item_operations.specs.declared.combine.ScanB.{ScanB}
use Rattle.item_operations.specs.declared.combine.ScanB.TheVariants.{And, Ior, Xor}

pub combine_b-assoc : (op : ScanB) (x y z : Bool) → combine_b op (combine_b op x y) z ≡ combine_b op x (combine_b op y z)
combine_b-assoc And true y z = refl
combine_b-assoc And false y z = refl
combine_b-assoc Ior true y z = refl
combine_b-assoc Ior false y z = refl
combine_b-assoc Xor true true true = refl
combine_b-assoc Xor true true false = refl
combine_b-assoc Xor true false true = refl
combine_b-assoc Xor true false false = refl
combine_b-assoc Xor false true true = refl
combine_b-assoc Xor false true false = refl
combine_b-assoc Xor false false true = refl
combine_b-assoc Xor false false false = refl

pub combine_b-unit : (op : ScanB) (x : Bool) → combine_b op x (unit_b op) ≡ x
combine_b-unit And true = refl
combine_b-unit And false = refl
combine_b-unit Ior true = refl
combine_b-unit Ior false = refl
combine_b-unit Xor true = refl
combine_b-unit Xor false = refl

pub combine_b-left_unit : (op : ScanB) (x : Bool) → combine_b op (unit_b op) x ≡ x
combine_b-left_unit And x = refl
combine_b-left_unit Ior x = refl
combine_b-left_unit Xor true = refl
combine_b-left_unit Xor false = refl

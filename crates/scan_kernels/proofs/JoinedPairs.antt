-- The joining of pairs is associative, and has a unit, where the operation is and has.
use Rattle.std.proofs.Common.{◌≡◌, Bool, true, false, refl, ap}
use Rattle.scan_kernels.specs.Pairs.{join_pairs}

module _ {X : Type 0} (op : X → X → X) where
  pub join_pairs-assoc : (p q r : Bool × X) → op (op p.1 q.1) r.1 ≡ op p.1 (op q.1 r.1) → join_pairs op (join_pairs op p q) r ≡ join_pairs op p (join_pairs op q r)
  join_pairs-assoc (true, x) (true, y) (true, z) e = refl
  join_pairs-assoc (true, x) (true, y) (false, z) e = refl
  join_pairs-assoc (true, x) (false, y) (true, z) e = refl
  join_pairs-assoc (true, x) (false, y) (false, z) e = ap (λ v. (true, v)) e
  join_pairs-assoc (false, x) (true, y) (true, z) e = refl
  join_pairs-assoc (false, x) (true, y) (false, z) e = refl
  join_pairs-assoc (false, x) (false, y) (true, z) e = refl
  join_pairs-assoc (false, x) (false, y) (false, z) e = ap (λ v. (false, v)) e

  pub join_pairs-left_unit : (u : X) (p : Bool × X) → op u p.1 ≡ p.1 → join_pairs op (false, u) p ≡ p
  join_pairs-left_unit u (true, x) e = refl
  join_pairs-left_unit u (false, x) e = ap (λ v. (false, v)) e

  pub join_pairs-right_unit : (u : X) (p : Bool × X) → op p.1 u ≡ p.1 → join_pairs op p (false, u) ≡ p
  join_pairs-right_unit u (true, x) e = ap (λ v. (true, v)) e
  join_pairs-right_unit u (false, x) e = ap (λ v. (false, v)) e

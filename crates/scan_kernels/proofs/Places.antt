-- Integers that are places of a list: `place_below`, `place_is`, `same_place`.
use Rattle.std.proofs.Common.{◌≡◌, ℕ, ◌<◌, ℤ, pos, negsuc, unsigned_abs, arith, refl, subst}
use Rattle.scan_kernels.specs.Indices.{IsPlaceOf}

pub place_below : (n p : ℕ) (z : ℤ) → IsPlaceOf n z → z ≡ pos p → p < n
place_below n p z h e = let at : IsPlaceOf n (pos p) = subst (IsPlaceOf n) e h in grind (arith, at.1)

pub place_is : (n : ℕ) (z : ℤ) → IsPlaceOf n z → z ≡ pos (unsigned_abs z)
place_is n (pos p) h = refl
place_is n (negsuc p) h = absurd (grind (arith, h.0))

pub same_place : (p q : ℕ) → pos p ≡ pos q → p ≡ q
same_place p q e = cc

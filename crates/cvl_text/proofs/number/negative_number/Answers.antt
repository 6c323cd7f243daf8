use Rattle.std.proofs.Common.{◌≡◌, ℕ, zero, zero-add, ◌<◌, ◌^◌, suc, pos, negsuc, ◌-ℤ◌, w64, FitsSigned, refl, sym, ap, ◌∙◌, arith, rules}
use Rattle.std.specs.Fmt.{decimal}
use Rattle.std.proofs.lemmas.Bool.{lt-ltb}
use Rattle.std.proofs.lemmas.Int.{ints, to_z_pos, to_z-of_z}
use Rattle.cvl_text.proofs.NumberReading.{negative-none, negative-some, negative-zero, negative-great}
use Rattle.cvl_text.proofs.number.negative_number.Goals as goal

minus_one-less : (n : ℕ) → negsuc 0 -ℤ pos n ≡ negsuc n
minus_one-less zero = refl
minus_one-less (suc n) = ap (λ (m : ℕ). negsuc (suc m)) (zero-add n)

fits : (n : ℕ) → n < 2 ^ 63 → FitsSigned w64 (negsuc n)
fits n lt = search (rules, ints)

pub returns-in_err-magnitude : goal.returns-in_err-magnitude
returns-in_err-magnitude c = c.from_residual.ensures ∙ sym (negative-none c.args.text.now c.in_err-magnitude.ensures)

pub returns-in_err-below : goal.returns-in_err-below
returns-in_err-below c = c.from_residual-in_err-below.ensures ∙ sym (negative-zero c.args.text.now c.in_ok-magnitude.magnitude c.in_ok-magnitude.ensures (omega (arith, c.in_err-below.ensures)))

pub returns-then-below-lt-LIMIT : goal.returns-then-below-lt-LIMIT
returns-then-below-lt-LIMIT c =
    let n = c.in_ok-below.below in
    let one_more : c.in_ok-magnitude.magnitude ≡ suc n = omega (arith, c.in_ok-below.ensures.0, c.in_ok-below.ensures.1) in
    let spelled = c.in_ok-magnitude.ensures ∙ ap decimal one_more in
    let read = negative-some c.args.text.now n spelled (lt-ltb n _ c.if-below-lt-LIMIT.true) in
    rw (to_z_pos w64 n c.if-below-lt-LIMIT.true, minus_one-less n, to_z-of_z w64 (negsuc n) (fits n c.if-below-lt-LIMIT.true)) (sym read)

pub returns-else-below-lt-LIMIT : goal.returns-else-below-lt-LIMIT
returns-else-below-lt-LIMIT c =
    sym (negative-great c.args.text.now c.in_ok-magnitude.magnitude c.in_ok-magnitude.ensures (omega arith) (omega (arith, c.in_ok-below.ensures.0, c.in_ok-below.ensures.1)))

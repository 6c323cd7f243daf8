-- Meters that rise: not at all (`rises-same`), by one run (`rises-one`), with a step (`rises-step`), one after the other (`rises-both`),
-- and by more at most (`rises-more`).
use Rattle.std.proofs.Common.{◌≡◌, inl, inr, ℕ, ◌+◌, ◌≤◌, Bool, true, false, Result, Ok, Err, refl, sym, ◌∙◌, subst, arith}
use Rattle.scan_kernels.specs.Metering.{Metered, raised}
use Rattle.cvl_calls.specs.Steps.{CountsStep}
use Rattle.call_history.specs.Blocks.{RisesBy}

pub rises-none : (most : ℕ) (m : Metered) → RisesBy most m m
rises-none most m = record { within = omega arith; rises = λ fits. (omega arith, fits); chunk = refl }

rises-raised : (m : Metered) → RisesBy 1 m (raised m)
rises-raised m = record { within = omega arith; rises = λ fits. (omega arith, omega arith); chunk = refl }

pub rises-same : (most : ℕ) (old new : Metered) → new ≡ old → RisesBy most old new
rises-same most old new is = subst (RisesBy most old) (sym is) (rises-none most old)

pub rises-one : (old new : Metered) → new ≡ raised old → RisesBy 1 old new
rises-one old new is = subst (RisesBy 1 old) (sym is) (rises-raised old)

pub rises-step : {X E : Type 0} (runs : Bool) (r : Result X E) (old new : Metered) → CountsStep runs r old new → RisesBy 1 old new
rises-step true (Ok x) old new counted = rises-one old new counted
rises-step true (Err e) old new (inl stays) = rises-same 1 old new stays
rises-step true (Err e) old new (inr more) = rises-one old new more
rises-step false r old new counted = rises-same 1 old new counted

pub rises-both : (a b most : ℕ) (old mid new : Metered) → a + b ≤ most → RisesBy a old mid → RisesBy b mid new → RisesBy most old new
rises-both a b most old mid new le one two =
    let first = one.within in
    let second = two.within in
    record {
      within = omega arith;
      rises = λ fits. let up = one.rises fits in let low = up.0 in let on = two.rises up.1 in let high = on.0 in (omega arith, on.1);
      chunk = two.chunk ∙ one.chunk;
    }

pub rises-more : (a b : ℕ) (old new : Metered) → a ≤ b → RisesBy a old new → RisesBy b old new
rises-more a b old new le one = let first = one.within in record { within = omega arith; rises = one.rises; chunk = one.chunk }

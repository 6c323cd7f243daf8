-- What a run counts is what its step counted, whatever it answers.
use Rattle.std.proofs.Common.{Bool, true, false, Ok, Err, refl, inl}
use Rattle.scan_kernels.specs.Metering.{Metered}
use Rattle.cvl_calls.specs.Steps.{CountsStep}

module _ (X Y E F : Type 0) (old new : Metered) where
  pub counts_refused : (runs : Bool) (e : E) (f : F) → CountsStep {X = X} {E = E} runs (Err e) old new → CountsStep {X = Y} {E = F} runs (Err f) old new
  counts_refused true e f counted = counted
  counts_refused false e f counted = counted

  pub counts_answered : (runs : Bool) (x : X) (y : Y) → CountsStep {X = X} {E = E} runs (Ok x) old new → CountsStep {X = Y} {E = F} runs (Ok y) old new
  counts_answered true x y counted = counted
  counts_answered false x y counted = counted

pub counts_nothing : (X E : Type 0) (old : Metered) (runs : Bool) (e : E) → CountsStep {X = X} {E = E} runs (Err e) old old
counts_nothing X E old true e = inl refl
counts_nothing X E old false e = refl

-- Scans and reductions keep the limit.
use Rattle.std.proofs.Common.{ℕ, ◌≤◌, length, sum}
use Rattle.std.specs.Prelude.{◌==◌}
use Rattle.std.proofs.Math.Nat.{le_trans}
use Rattle.scan_kernels.specs.Segmented.{scanned, segmented_scan, segmented_reduce}
use Rattle.cvl_text.specs.declared.fault.Fault.TheVariants.{BadSegments}
use Rattle.cvl_calls.specs.Operands.{segs, ItemType}
use Rattle.cvl_calls.specs.Outcomes.{Operand}
use Rattle.cvl_calls.specs.Work.{reduce, reduce_segments, scan, scan_segments}
use Rattle.cvl_calls.proofs.Fitting.{IsFit, ItemsFit, MakesFitting, MakesFitting-bind, MakesFitting-check, same-few, segs-within}
use Rattle.cvl_calls.proofs.Sizes.{length-scanned, length-segmented_scan, length-segmented_reduce}

module _ {X : Type 0} (limit : ℕ) (type : ItemType X) (op : X → X → X) (unit : X) (fit_type : ItemsFit limit type) where
  pub scan-fits : (a : Operand) → IsFit limit a → MakesFitting limit (scan type op unit a)
  unfolding scan
  scan-fits a fit =
      MakesFitting-bind limit (type.read a) _ (λ xs was.
      let few : length (scanned op unit xs) ≤ limit = same-few (length-scanned op unit xs) (fit_type.short a xs fit was) in
      record { fits = fit_type.fit (scanned op unit xs) few })

  pub scan_segments-fits : (a s : Operand) → IsFit limit a → MakesFitting limit (scan_segments type op unit a s)
  unfolding scan_segments
  scan_segments-fits a s fit =
      MakesFitting-bind limit (type.read a) _ (λ xs was.
      MakesFitting-bind limit (segs s) _ (λ ls _.
      MakesFitting-check limit (sum ls == length xs) BadSegments _ (λ _.
      let few : length (segmented_scan op unit ls xs) ≤ limit = le_trans (length-segmented_scan op unit ls xs) (fit_type.short a xs fit was) in
      record { fits = fit_type.fit (segmented_scan op unit ls xs) few })))

  pub reduce-fits : (a : Operand) → MakesFitting limit (reduce type op unit a)
  unfolding reduce
  reduce-fits a = MakesFitting-bind limit (type.read a) _ (λ xs _. record { fits = tt })

  pub reduce_segments-fits : (a s : Operand) → IsFit limit s → MakesFitting limit (reduce_segments type op unit a s)
  unfolding reduce_segments
  reduce_segments-fits a s fit =
      MakesFitting-bind limit (type.read a) _ (λ xs _.
      MakesFitting-bind limit (segs s) _ (λ ls was.
      MakesFitting-check limit (sum ls == length xs) BadSegments _ (λ _.
      let within = segs-within limit s fit ls was in
      let few : length (segmented_reduce op unit ls xs) ≤ limit = same-few (length-segmented_reduce op unit ls xs) within.0 in
      record { fits = fit_type.fit (segmented_reduce op unit ls xs) few })))

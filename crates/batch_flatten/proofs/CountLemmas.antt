-- Meters that rise with the step of a call (`rises-kernel`); the other lemmas are those of the crate below.
use Rattle.std.proofs.Common.{Bool, true, false, ◌&&◌, Result}
use Rattle.scan_kernels.specs.Metering.{Metered}
use Rattle.cvl_calls.specs.Steps.{CountsStep}
use Rattle.call_history.specs.Blocks.{RisesBy}
pub use Rattle.call_history.proofs.Rises.{rises-both, rises-more, rises-one, rises-same, rises-step}
use Rattle.batch_flatten.specs.Counts.{kernels_of}

-- the step of a call that runs by itself: one kernel, or none
pub rises-kernel : {X E : Type 0} (kernel ok : Bool) (r : Result X E) (old new : Metered) → CountsStep (kernel && ok) r old new → RisesBy (kernels_of kernel) old new
rises-kernel false ok r old new counted = rises-same 0 old new counted
rises-kernel true ok r old new counted = rises-step ok r old new counted

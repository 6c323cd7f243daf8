-- What a step counts, where there is no fault: what the run of a kernel did (`counts-step`), of a call that runs one (`runs-without_fault`).
use Rattle.std.proofs.Common.{◌≡◌, Bool, true, false, Result, Ok, Err, inr, refl, ap}
use Rattle.std.specs.Prelude.{◌&&◌, is_ok}
use Rattle.scan_kernels.specs.Metering.{Metered}
use Rattle.cvl_text.specs.declared.fault.Fault.{Fault}
use Rattle.cvl_calls.specs.Outcomes.{Counts, Effect}
use Rattle.cvl_calls.specs.Steps.{CountsStep}

-- a kernel that ran is counted by the step, whatever comes of the store
pub counts-step : {X Y F : Type 0} (E : Type 0) (runs : Bool) (ran : X) (r : Result Y F) (old new : Metered) → Counts {X = X} {E = E} runs (Ok ran) old new → CountsStep runs r old new
counts-step E true ran (Ok y) old new h = h
counts-step E true ran (Err _) old new h = inr h
counts-step E false ran r old new h = h

-- where there is no fault, whether the step runs a kernel is the word's
pub runs-without_fault : (runs : Bool) (said : Result Effect Fault) (effect : Effect) → said ≡ Ok effect → (runs && is_ok said) ≡ runs
runs-without_fault true said effect e = ap is_ok e
runs-without_fault false said effect e = refl

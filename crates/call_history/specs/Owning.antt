-- Which calls and jobs own memory.
use Rattle.std.specs.Prelude.{Bool, true, false}
use Rattle.cvl_text.specs.declared.call.Call.{Call}
use Rattle.cvl_text.specs.declared.call.Call.TheVariants as calls
use Rattle.call_history.specs.declared.request.Job.{Job}
use Rattle.call_history.specs.declared.request.Job.TheVariants.{One, Many}

-- with items or names behind a pointer
abbrev pub is_owning : Call → Bool
is_owning (calls.SetInts to items) = true
is_owning (calls.SetBools to items) = true
is_owning (calls.Sel kind to f a b) = true
is_owning (calls.IndSeg to a b s) = true
is_owning (calls.SmpSeg kind to a i s) = true
is_owning (calls.BckSeg kind to a s index) = true
is_owning (calls.PckSeg kind to a f s) = true
is_owning other = false

-- a block owns the list of its calls
abbrev pub is_owning_job : Job → Bool
is_owning_job (One call) = is_owning call
is_owning_job (Many calls) = true

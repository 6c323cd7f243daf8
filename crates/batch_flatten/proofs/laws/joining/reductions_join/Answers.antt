use Rattle.std.proofs.Common.{sym}
use Rattle.scan_kernels.proofs.Joining.{segmented_reduce-joined}
use Rattle.batch_flatten.proofs.laws.joining.reductions_join.Goals as goal

pub returns : goal.returns
returns g c = λ op unit lengths items parts total. sym (segmented_reduce-joined op unit lengths items parts total)

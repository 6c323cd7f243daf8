use Rattle.std.proofs.Common.{sym}
use Rattle.scan_kernels.proofs.Joining.{reduced-joined}
use Rattle.batch_flatten.proofs.laws.joining.whole_reductions_join.Goals as goal

pub returns : goal.returns
returns g c = λ op unit items parts. sym (reduced-joined op unit items parts)

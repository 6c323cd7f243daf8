use Rattle.std.proofs.Common.{sym}
use Rattle.scan_kernels.proofs.Joining.{replicate-joined}
use Rattle.batch_flatten.proofs.laws.joining.repeats_join.Goals as goal

pub returns : goal.returns
returns g c = λ number value parts. sym (replicate-joined number value parts)

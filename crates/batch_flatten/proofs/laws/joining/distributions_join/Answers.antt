use Rattle.std.proofs.Common.{sym}
use Rattle.scan_kernels.proofs.Joining.{distributed-joined}
use Rattle.batch_flatten.proofs.laws.joining.distributions_join.Goals as goal

pub returns : goal.returns
returns g c = λ lengths values parts same. sym (distributed-joined lengths values parts same)

use Rattle.std.proofs.Common.{sym}
use Rattle.scan_kernels.proofs.Joining.{indexed-joined}
use Rattle.batch_flatten.proofs.laws.joining.whole_indices_join.Goals as goal

pub returns : goal.returns
returns g c = λ number start stride parts. sym (indexed-joined number start stride parts)

use Rattle.std.proofs.Common.{sym}
use Rattle.permute_kernels.proofs.Parts.{gathered-joined}
use Rattle.batch_flatten.proofs.laws.joining.gathers_join.Goals as goal

pub returns : goal.returns
returns g c = λ items index parts. sym (gathered-joined items index parts)

use Rattle.std.proofs.Common.{sym}
use Rattle.scan_kernels.proofs.Joining.{selected-joined}
use Rattle.batch_flatten.proofs.laws.joining.selects_join.Goals as goal

pub returns : goal.returns
returns g c = λ flags first second parts same. sym (selected-joined flags first second parts same)

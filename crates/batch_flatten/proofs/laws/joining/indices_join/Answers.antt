use Rattle.std.proofs.Common.{sym}
use Rattle.scan_kernels.proofs.Joining.{segmented_index-joined}
use Rattle.batch_flatten.proofs.laws.joining.indices_join.Goals as goal

pub returns : goal.returns
returns g c = λ lengths starts strides parts same. sym (segmented_index-joined lengths starts strides parts same)

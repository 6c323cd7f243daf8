use Rattle.std.proofs.Common.{sym}
use Rattle.permute_kernels.proofs.Parts.{segmented_permute-joined}
use Rattle.batch_flatten.proofs.laws.joining.permutes_join.Goals as goal

pub returns : goal.returns
returns g c = λ items index lengths parts same. sym (segmented_permute-joined items index lengths parts same)

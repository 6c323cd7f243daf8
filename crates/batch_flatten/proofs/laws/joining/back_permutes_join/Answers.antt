use Rattle.std.proofs.Common.{sym}
use Rattle.permute_kernels.proofs.Parts.{segmented_gather-joined}
use Rattle.batch_flatten.proofs.laws.joining.back_permutes_join.Goals as goal

pub returns : goal.returns
returns g c = λ items source index by parts same. sym (segmented_gather-joined items source index by parts same)

use Rattle.std.proofs.Common.{sym}
use Rattle.permute_kernels.proofs.Parts.{permuted-joined}
use Rattle.batch_flatten.proofs.laws.joining.whole_permutes_join.Goals as goal

pub returns : goal.returns
returns g c = λ items index parts same. sym (permuted-joined items index parts same)

use Rattle.std.proofs.Common.{sym}
use Rattle.permute_kernels.proofs.Parts.{numbers_set-joined}
use Rattle.batch_flatten.proofs.laws.joining.packed_lengths_join.Goals as goal

pub returns : goal.returns
returns g c = λ flags lengths parts total. sym (numbers_set-joined flags lengths parts total)

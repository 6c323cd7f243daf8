use Rattle.std.proofs.Common.{sym}
use Rattle.permute_kernels.proofs.Parts.{packed-joined}
use Rattle.batch_flatten.proofs.laws.joining.packs_join.Goals as goal

pub returns : goal.returns
returns g c = λ items flags parts same. sym (packed-joined items flags parts same)

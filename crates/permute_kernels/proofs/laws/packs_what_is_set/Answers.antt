use Rattle.scan_kernels.proofs.PackedLists.{length-packed}
use Rattle.permute_kernels.proofs.laws.packs_what_is_set.Goals as goal

pub returns : goal.returns
returns g c = length-packed

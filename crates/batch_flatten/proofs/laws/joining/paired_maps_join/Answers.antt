use Rattle.std.proofs.Common.{sym}
use Rattle.scan_kernels.proofs.Joining.{item_by_item-joined}
use Rattle.batch_flatten.proofs.laws.joining.paired_maps_join.Goals as goal

pub returns : goal.returns
returns g c = λ f first second parts same. sym (item_by_item-joined f first second parts same)

use Rattle.std.proofs.Common.{sym}
use Rattle.scan_kernels.proofs.Joining.{map-joined}
use Rattle.batch_flatten.proofs.laws.joining.maps_join.Goals as goal

pub returns : goal.returns
returns g c = λ f items parts. sym (map-joined f items parts)

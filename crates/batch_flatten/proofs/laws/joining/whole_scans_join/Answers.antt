use Rattle.std.proofs.Common.{sym}
use Rattle.scan_kernels.proofs.Joining.{scanned-joined}
use Rattle.batch_flatten.proofs.laws.joining.whole_scans_join.Goals as goal

pub returns : goal.returns
returns g c = λ op unit items parts. sym (scanned-joined op unit items parts)

use Rattle.std.proofs.Common.{sym}
use Rattle.scan_kernels.proofs.ResultLengths.{length-indexed}
use Rattle.scan_kernels.proofs.fills.RisingPlacewiseI64.count.Goals as goal

pub returns : goal.returns
returns c = sym (length-indexed c.args.self.now.start c.args.self.now.stride c.args.self.now.count)

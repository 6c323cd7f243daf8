use Rattle.std.proofs.Common.{sym}
use Rattle.scan_kernels.proofs.UndoneMoves.{length-gathered}
use Rattle.scan_kernels.proofs.moves.GatheredPlacewise.count.Goals as goal

pub returns : goal.returns
returns g c = sym (length-gathered c.args.self.now.items.now c.args.self.now.index.now c.requires)

use Rattle.std.proofs.Common.{sym}
use Rattle.scan_kernels.proofs.UndoneMoves.{IsPermuted-permuted}
use Rattle.scan_kernels.proofs.moves.Permuted.count.Goals as goal

pub returns : goal.returns
returns g c = sym (IsPermuted-permuted c.args.self.index.now c.args.self.items.now c.requires.each_once c.requires.same_length).0

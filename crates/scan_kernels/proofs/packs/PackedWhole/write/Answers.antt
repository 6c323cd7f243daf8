use Rattle.std.proofs.Common.{arith}
use Rattle.scan_kernels.proofs.PackedLists.{length-packed}
use Rattle.scan_kernels.proofs.packs.PackedWhole.write.Goals as goal

pub write_packed-requires-clause-within : goal.write_packed-requires-clause-within
write_packed-requires-clause-within g c =
    omega (arith, length-packed c.args.self.flags.now c.args.self.items.now c.requires.same_length, c.requires.within)

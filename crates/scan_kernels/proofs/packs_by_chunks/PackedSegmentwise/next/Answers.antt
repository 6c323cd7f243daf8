use Rattle.std.proofs.Common.{arith, rules, ◌<◌, length}
use Rattle.scan_kernels.proofs.PackedChunks.{packed_many}
use Rattle.scan_kernels.proofs.packs_by_chunks.PackedSegmentwise.next.Goals as goal

pub offset_bounds-self-number : goal.offset_bounds-self-number
offset_bounds-self-number g c =
    let l = c.args.self.now in
    let many = packed_many l.lengths.now l.flags.now l.items.now in
    let h : c.args.number < length l.lengths.now = omega arith in
    search rules

pub bounds-self-number : goal.bounds-self-number
bounds-self-number g c =
    omega (arith, packed_many c.args.self.now.lengths.now c.args.self.now.flags.now c.args.self.now.items.now)

use Rattle.std.proofs.Common.{arith, sym}
use Rattle.std.proofs.lemmas.List.{length-take-le}
use Rattle.scan_kernels.proofs.PackedChunks.{packed_many}
use Rattle.scan_kernels.proofs.packs_by_chunks.PackedSegmentwise.origin.Goals as goal

pub slice_bounds-total-end : goal.slice_bounds-total-end
slice_bounds-total-end g c =
    let l = c.args.self.now in
    let many = packed_many l.lengths.now l.flags.now l.items.now in
    sym (length-take-le c.args.number l.lengths.now (omega arith))

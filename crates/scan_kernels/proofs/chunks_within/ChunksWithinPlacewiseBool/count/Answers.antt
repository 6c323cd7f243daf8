use Rattle.std.proofs.Common.{sym}
use Rattle.scan_kernels.specs.Marked.{each_within}
use Rattle.scan_kernels.proofs.PlaceTests.{length-chunks_set}
use Rattle.scan_kernels.proofs.chunks_within.ChunksWithinPlacewiseBool.count.Goals as goal

pub returns : goal.returns
returns c =
    let l = c.args.self.now in
    sym (length-chunks_set l.size (each_within l.source.now l.by.now l.index.now) l.count)

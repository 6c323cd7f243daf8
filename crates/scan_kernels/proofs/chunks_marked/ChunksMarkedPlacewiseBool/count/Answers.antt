use Rattle.std.proofs.Common.{sym}
use Rattle.scan_kernels.specs.Marked.{segmented_marks}
use Rattle.scan_kernels.proofs.PlaceTests.{length-chunks_set}
use Rattle.scan_kernels.proofs.chunks_marked.ChunksMarkedPlacewiseBool.count.Goals as goal

pub returns : goal.returns
returns c =
    let l = c.args.self.now in
    sym (length-chunks_set l.size (segmented_marks l.lengths.now l.index.now) l.count)

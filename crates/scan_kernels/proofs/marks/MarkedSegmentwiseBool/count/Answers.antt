use Rattle.std.proofs.Common.{sym}
use Rattle.scan_kernels.proofs.MarkedPlaces.{length-segmented_marks}
use Rattle.scan_kernels.proofs.marks.MarkedSegmentwiseBool.count.Goals as goal

pub returns : goal.returns
returns c =
    let l = c.args.self.now in
    sym (length-segmented_marks l.lengths.now l.index.now c.requires)

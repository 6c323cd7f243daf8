use Rattle.std.proofs.Common.{arith}
use Rattle.scan_kernels.proofs.ResultLengths.{length-segmented_index}
use Rattle.scan_kernels.proofs.fills_by_segments.RisingSegmentsSegmentwiseI64.count.Goals as goal

pub returns : goal.returns
returns c =
    let l = c.args.self.now in
    omega (arith, length-segmented_index l.lengths.now l.starts.now l.strides.now c.requires.0 c.requires.1)

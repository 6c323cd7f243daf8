use Rattle.std.proofs.Common.{arith, zip, ℕ, ℤ}
use Rattle.std.proofs.lemmas.Slice.Zip.{length-zip}
use Rattle.scan_kernels.specs.Indexed.{indexed}
use Rattle.scan_kernels.proofs.ResultLengths.{length-indexed}
use Rattle.scan_kernels.proofs.SegmentLists.{lengths_are}
use Rattle.scan_kernels.proofs.fills_by_segments.RisingSegmentsSegmentwiseI64.lengths.Goals as goal

pub returns : goal.returns
returns c =
    let starts = c.args.self.now.starts.now in
    let strides = c.args.self.now.strides.now in
    let both = length-zip starts strides in
    lengths_are (λ (p : ℕ × (ℤ × ℤ)). indexed p.1.0 p.1.1 p.0) (λ l y. length-indexed y.0 y.1 l) c.args.self.now.lengths.now (zip starts strides) (omega arith)

use Rattle.scan_kernels.proofs.MarkedPlaces.{marks_lengths}
use Rattle.scan_kernels.proofs.marks.MarkedSegmentwiseBool.lengths.Goals as goal

pub returns : goal.returns
returns c = marks_lengths c.args.self.now.lengths.now c.args.self.now.index.now c.requires

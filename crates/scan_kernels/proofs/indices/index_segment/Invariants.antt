use Rattle.segment_desc.specs.Appended.{Appends}
use Rattle.scan_kernels.specs.Indexed.{indexed}
use Rattle.scan_kernels.proofs.indices.index_segment.Given as goal

abbrev pub invariant-loop-i : goal.invariant-loop-i
invariant-loop-i l = Appends l.initial.made l.made (indexed l.start l.stride l.i)

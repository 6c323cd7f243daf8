use Rattle.std.proofs.Common.{replicate}
use Rattle.segment_desc.specs.Appended.{Appends}
use Rattle.scan_kernels.proofs.fill.repeat.Given as goal

abbrev pub invariant-loop-copy : goal.invariant-loop-copy
invariant-loop-copy g l = Appends l.initial.made l.made (replicate l._copy l.value)

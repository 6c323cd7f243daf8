use Rattle.std.proofs.Common.{◌≡◌, ◌+◌, take, vec_len}
use Rattle.segment_desc.specs.Appended.{Appends}
use Rattle.scan_kernels.specs.Gathered.{gathered}
use Rattle.permute_kernels.proofs.gather.gather.Given as goal

abbrev pub invariant-loop-held : goal.invariant-loop-held
invariant-loop-held g l = record {
  made : Appends l.initial.made l.made (gathered (take l.held-index l.index) l.items);
  long : vec_len l.made ≡ vec_len l.initial.made + l.held-index;
}

use Rattle.std.proofs.Common.{◌≡◌, ◌≤◌, All, length, map, take, vec_len, vec_capacity}
use Rattle.segment_desc.specs.Appended.{IsExact}
use Rattle.scan_kernels.specs.Parts.{parts_made}
use Rattle.scan_kernels.proofs.kernel.run_parts.Given as goal

abbrev pub invariant-loop-part : goal.invariant-loop-part
invariant-loop-part g l = record {
  made : parts_made l.made.items ≡ map (g.K.Kernel.makes l.kernel) (take l.part-index l.parts);
  exact : All IsExact l.made.items;
  long : vec_len l.made ≡ l.part-index;
  room : length l.parts ≤ vec_capacity l.made;
}

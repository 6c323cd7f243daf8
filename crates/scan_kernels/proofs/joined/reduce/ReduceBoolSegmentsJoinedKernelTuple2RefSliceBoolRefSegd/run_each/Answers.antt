use Rattle.std.proofs.Common.{Bool, List, Bor}
use Rattle.item_operations.specs.BooleanScans.{combine_b, unit_b}
use Rattle.item_operations.specs.declared.combine.ScanB.{ScanB}
use Rattle.segment_desc.specs.declared.segments.Segd.{Segd}
use Rattle.scan_kernels.specs.Segmented.{segmented_reduce}
use Rattle.scan_kernels.proofs.ByChoice.{by_choice}
use Rattle.scan_kernels.proofs.joined.reduce.ReduceBoolSegmentsJoinedKernelTuple2RefSliceBoolRefSegd.run_each.Goals as goal

abbrev makes : ScanB → Bor (List Bool) × Bor Segd → List Bool
makes op p = segmented_reduce (combine_b op) (unit_b op) p.1.now p.0.now

pub returns-in-And-clause-parts : goal.returns-in-And-clause-parts
returns-in-And-clause-parts c = by_choice makes c.args.parts.now c.run_parts.result c.in-And.is c.run_parts.ensures.parts

pub returns-in-Ior-clause-parts : goal.returns-in-Ior-clause-parts
returns-in-Ior-clause-parts c = by_choice makes c.args.parts.now c.run_parts-in-Ior.result c.in-Ior.is c.run_parts-in-Ior.ensures.parts

pub returns-in-Xor-clause-parts : goal.returns-in-Xor-clause-parts
returns-in-Xor-clause-parts c = by_choice makes c.args.parts.now c.run_parts-in-Xor.result c.in-Xor.is c.run_parts-in-Xor.ensures.parts

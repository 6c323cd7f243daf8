use Rattle.std.proofs.Common.{ℤ, List, Bor}
use Rattle.item_operations.specs.IntegerScans.{combine_z, unit_z}
use Rattle.item_operations.specs.declared.combine.ScanZ.{ScanZ}
use Rattle.segment_desc.specs.declared.segments.Segd.{Segd}
use Rattle.scan_kernels.specs.Segmented.{segmented_reduce}
use Rattle.scan_kernels.proofs.ByChoice.{by_choice}
use Rattle.scan_kernels.proofs.joined.reduce.ReduceIntSegmentsJoinedKernelTuple2RefSliceI64RefSegd.run_each.Goals as goal

abbrev makes : ScanZ → Bor (List ℤ) × Bor Segd → List ℤ
makes op p = segmented_reduce (combine_z op) (unit_z op) p.1.now p.0.now

pub returns-in-Add-clause-parts : goal.returns-in-Add-clause-parts
returns-in-Add-clause-parts c = by_choice makes c.args.parts.now c.run_parts.result c.in-Add.is c.run_parts.ensures.parts

pub returns-in-Mul-clause-parts : goal.returns-in-Mul-clause-parts
returns-in-Mul-clause-parts c = by_choice makes c.args.parts.now c.run_parts-in-Mul.result c.in-Mul.is c.run_parts-in-Mul.ensures.parts

pub returns-in-Max-clause-parts : goal.returns-in-Max-clause-parts
returns-in-Max-clause-parts c = by_choice makes c.args.parts.now c.run_parts-in-Max.result c.in-Max.is c.run_parts-in-Max.ensures.parts

pub returns-in-Min-clause-parts : goal.returns-in-Min-clause-parts
returns-in-Min-clause-parts c = by_choice makes c.args.parts.now c.run_parts-in-Min.result c.in-Min.is c.run_parts-in-Min.ensures.parts

pub returns-in-And-clause-parts : goal.returns-in-And-clause-parts
returns-in-And-clause-parts c = by_choice makes c.args.parts.now c.run_parts-in-And.result c.in-And.is c.run_parts-in-And.ensures.parts

pub returns-in-Ior-clause-parts : goal.returns-in-Ior-clause-parts
returns-in-Ior-clause-parts c = by_choice makes c.args.parts.now c.run_parts-in-Ior.result c.in-Ior.is c.run_parts-in-Ior.ensures.parts

pub returns-in-Xor-clause-parts : goal.returns-in-Xor-clause-parts
returns-in-Xor-clause-parts c = by_choice makes c.args.parts.now c.run_parts-in-Xor.result c.in-Xor.is c.run_parts-in-Xor.ensures.parts

use Rattle.std.proofs.Common.{arith, ◌∙◌, ◌*◌, ◌/◌, ◌<◌, length}
use Rattle.std.proofs.Math.Nat.{div-mul-le_self}
use Rattle.scan_kernels.specs.Segmented.{segmented_scan}
use Rattle.scan_kernels.proofs.Carried.{later_chunk, scan-item}
use Rattle.scan_kernels.proofs.NextSegment.{segment_within}
use Rattle.scan_kernels.proofs.ResultLengths.{length-segmented_scan}
use Rattle.scan_kernels.proofs.scans_in_parts.write_scan.Goals as goal

pub carry_at-carry-requires-clause-carried : goal.carry_at-carry-requires-clause-carried
carry_at-carry-requires-clause-carried g c κs within =
    λ h.
    let op = g.O.Combine.combined c.args.op in
    let u = g.O.Combine.unit_of c.args.op in
    let ls = c.args.lengths.now in
    let xs = c.args.items.now in
    let chunk = c.args.start / c.args.size in
    let edge = chunk * c.args.size in
    let total = c.requires.fits.1 in
    let at = c.segment_of-segment.ensures in
    let near = div-mul-le_self c.args.start c.args.size in
    let all = length-segmented_scan op u ls xs (omega arith) in
    let inside : edge < length (segmented_scan op u ls xs) = omega (arith, at.before_end, segment_within ls c.segment_of-segment.result.number c.segment_of-segment.result.begin (length xs) at.number_is at.begin_is total) in
    c.requires.fits.2.item chunk (later_chunk c.segment_of-segment.result.begin chunk c.args.size h) inside ∙ scan-item op u ls xs c.segment_of-segment.result.number c.segment_of-segment.result.begin edge total (record { number_is = at.number_is; begin_is = at.begin_is; behind_begin = omega arith; before_end = omega (arith, at.before_end) })

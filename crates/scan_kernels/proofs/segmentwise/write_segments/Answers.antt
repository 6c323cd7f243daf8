use Rattle.std.proofs.Common.{arith, rules, ◌<◌, ◌∙◌, ap, drop, length, sum, take}
use Rattle.scan_kernels.proofs.SegmentRuns.{length-joined}
use Rattle.scan_kernels.proofs.segmentwise.write_segments.Goals as goal

pub segment_of-segment-requires-clause-within : goal.segment_of-segment-requires-clause-within
segment_of-segment-requires-clause-within g c =
    let some : 0 < length c.args.part.now = search rules in
    omega (arith, length-joined (g.L.Segmentwise.segments c.args.list.now), ap sum c.lengths.ensures, ap length c.joins.ensures)

pub write_from_segment-requires-clause-within : goal.write_from_segment-requires-clause-within
write_from_segment-requires-clause-within g c = omega (arith, ap length c.joins.ensures)

pub returns : goal.returns
returns g c = c.write_from_segment.ensures ∙ ap (λ l. take (length c.args.part.now) (drop c.args.start l)) c.joins.ensures

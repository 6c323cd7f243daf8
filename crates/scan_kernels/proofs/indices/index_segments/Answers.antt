use Rattle.std.proofs.Common.{arith, rules, take, sum, get_or, pos, SFits, w64, of_z, to_z, refl, ap, sym, ◌∙◌}
use Rattle.std.proofs.lemmas.Int.{to_z-of_z}
use Rattle.segment_desc.proofs.Appending.{appends_more, appends_same}
use Rattle.scan_kernels.specs.Indexed.{indexed}
use Rattle.scan_kernels.proofs.NextSegment.{sum-take_more, segment_within}
use Rattle.scan_kernels.proofs.ResultLengths.{length-indexed}
use Rattle.scan_kernels.proofs.Paired.{segmented_index_more, segmented_index_all}
use Rattle.scan_kernels.proofs.indices.index_segments.Goals as goal

pub index_segment-requires-clause-room : goal.index_segment-requires-clause-room
index_segment-requires-clause-room c =
    let ls = c.args.lengths.now in
    let j = c.loop-j.j in
    let within = segment_within ls j (sum (take j ls)) (sum ls) c.loop-j-test.true refl refl in
    omega arith

pub loop-j-preserved : goal.loop-j-preserved
loop-j-preserved c =
    let ls = c.args.lengths.now in
    let starts = c.args.starts.now in
    let strides = c.args.strides.now in
    let j = c.loop-j.j in
    let more = segmented_index_more ls starts strides j c.loop-j-test.true c.requires.starts c.requires.strides in
    let total = sum-take_more ls j c.loop-j-test.true in
    let start_fits : SFits w64 (get_or starts j (pos 0)) = search rules in
    let stride_fits : SFits w64 (get_or strides j (pos 0)) = search rules in
    let start = to_z-of_z w64 (get_or starts j (pos 0)) start_fits in
    let stride = to_z-of_z w64 (get_or strides j (pos 0)) stride_fits in
    let many = length-indexed (get_or starts j (pos 0)) (get_or strides j (pos 0)) (get_or ls j 0) in
    let made = appends_same c.index_segment.ensures (ap (λ s. indexed s (to_z w64 (of_z w64 (get_or strides j (pos 0)))) (get_or ls j 0)) start ∙ ap (λ d. indexed (get_or starts j (pos 0)) d (get_or ls j 0)) stride) in
    record { made = appends_more c.loop-j.invariant.made made (sym more); long = omega arith }

pub returns : goal.returns
returns c =
    let all = segmented_index_all c.args.lengths.now c.args.starts.now c.args.strides.now c.loop-j.j c.loop-j-test.false in
    appends_same c.loop-j.invariant.made all

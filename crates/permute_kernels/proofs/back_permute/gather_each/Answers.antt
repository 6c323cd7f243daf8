use Rattle.std.proofs.Common.{◌+◌, ◌-◌, ◌++◌, ap, drop, get_or, sym, take, ◌∙◌, arith}
use Rattle.scan_kernels.proofs.NextSegment.{sum-take_more}
use Rattle.scan_kernels.specs.Gathered.{gathered}
use Rattle.permute_kernels.proofs.Gathering.{places_of_segment, segmented_gather_more}
use Rattle.scan_kernels.proofs.Segments.{length_segment}
use Rattle.scan_kernels.proofs.UndoneMoves.{length-gathered}
use Rattle.permute_kernels.proofs.back_permute.gather_each.Goals as goal

pub gather-requires-clause-within : goal.gather-requires-clause-within
gather-requires-clause-within g c = λ κs h.
    places_of_segment c.args.source.now c.args.by.now c.loop-j.j c.loop-j.from c.loop-j.at c.args.items.now c.args.index.now c.loop-j-test.true c.requires.counts c.loop-j.invariant.begins c.loop-j.invariant.place c.requires.source_total c.requires.within

pub loop-j-preserved : goal.loop-j-preserved
loop-j-preserved g c =
    let ss = c.args.source.now in
    let ts = c.args.by.now in
    let j = c.loop-j.j in
    let from = c.loop-j.from in
    let at = c.loop-j.at in
    let read = gathered (take (at + get_or ts j 0 - at) (drop at c.args.index.now)) (take (from + get_or ss j 0 - from) (drop from c.args.items.now)) in
    let more = segmented_gather_more ss ts j from at c.args.items.now c.args.index.now c.loop-j-test.true c.requires.counts c.loop-j.invariant.begins c.loop-j.invariant.place in
    let begun = sum-take_more ss j (omega arith) in
    let total = sum-take_more ts j c.loop-j-test.true in
    let long = length_segment ts j at c.args.index.now c.loop-j-test.true c.loop-j.invariant.place c.requires.total in
    let within = places_of_segment ss ts j from at c.args.items.now c.args.index.now c.loop-j-test.true c.requires.counts c.loop-j.invariant.begins c.loop-j.invariant.place c.requires.source_total c.requires.within in
    let many = length-gathered (take (from + get_or ss j 0 - from) (drop from c.args.items.now)) (take (at + get_or ts j 0 - at) (drop at c.args.index.now)) within in
    record {
      begins = omega arith;
      place = omega arith;
      made = c.gather.ensures.items ∙ ap (λ l. l ++ read) c.loop-j.invariant.made ∙ sym more;
      long = omega arith;
      room = omega arith;
    }

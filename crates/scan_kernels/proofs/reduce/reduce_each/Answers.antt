use Rattle.std.proofs.Common.{arith, rules, drop, get_or, ap, ◌∙◌}
use Rattle.segment_desc.proofs.Appending.{appends_more}
use Rattle.scan_kernels.proofs.NextSegment.{drop-take_more, segmented_reduce-take_more}
use Rattle.scan_kernels.proofs.reduce.reduce_each.Goals as goal

pub loop-length-preserved : goal.loop-length-preserved
loop-length-preserved g c =
    let op = g.O.Combine.combined c.args.op in
    let u = g.O.Combine.unit_of c.args.op in
    let xs = c.args.items.now in
    let ls = c.args.lengths.now in
    let i = c.loop-length.length-index in
    let more = segmented_reduce-take_more op u ls i xs c.loop-length-test.true in
    record {
      rest = c.split_at.ensures.back ∙ ap (drop (get_or ls i 0)) c.loop-length.invariant.rest ∙ drop-take_more ls i xs c.loop-length-test.true;
      made = appends_more c.loop-length.invariant.made (record { items = c.push_reserved.ensures.items; len = search rules; capacity = c.push_reserved.ensures.capacity }) cc;
      long = omega arith;
    }

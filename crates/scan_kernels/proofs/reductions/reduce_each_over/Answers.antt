use Rattle.std.proofs.Common.{drop, get_or, ap, ◌∙◌, arith}
use Rattle.std.proofs.lemmas.List.{take_more_set}
use Rattle.scan_kernels.proofs.NextSegment.{drop-take_more, segmented_reduce-take_more}
use Rattle.scan_kernels.proofs.reductions.reduce_each_over.Goals as goal

pub loop-i-preserved : goal.loop-i-preserved
loop-i-preserved g c =
    let op = g.O.Combine.combined c.args.op in
    let u = g.O.Combine.unit_of c.args.op in
    let xs = c.args.items.now in
    let ls = c.args.lengths.now in
    let i = c.loop-i.i in
    let part = c.loop-i.part in
    let more = segmented_reduce-take_more op u ls i xs (omega arith) in
    let write = take_more_set part i c.reduce_segment.result (omega arith) in
    record {
      rest = c.split_at.ensures.back ∙ ap (drop (get_or ls i 0)) c.loop-i.invariant.rest ∙ drop-take_more ls i xs (omega arith);
      done = cc;
    }

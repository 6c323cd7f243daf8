use Rattle.std.proofs.Common.{arith, take, sum, get_or, refl}
use Rattle.std.proofs.lemmas.List.{length-replicate}
use Rattle.segment_desc.proofs.Appending.{appends_more, appends_same}
use Rattle.scan_kernels.proofs.NextSegment.{sum-take_more, segment_within}
use Rattle.scan_kernels.proofs.Paired.{distributed_more, distributed_all}
use Rattle.scan_kernels.proofs.distribute.distribute_each.Goals as goal

pub repeat-requires : goal.repeat-requires
repeat-requires g c =
    let ls = c.args.lengths.now in
    let j = c.loop-j.j in
    let within = segment_within ls j (sum (take j ls)) (sum ls) c.loop-j-test.true refl refl in
    omega arith

pub loop-j-preserved : goal.loop-j-preserved
loop-j-preserved g c =
    let ls = c.args.lengths.now in
    let values = c.args.values.now in
    let j = c.loop-j.j in
    let value = c.index-values-j.result in
    let more = distributed_more ls values j value c.loop-j-test.true c.requires.count in
    let total = sum-take_more ls j c.loop-j-test.true in
    record { made = appends_more c.loop-j.invariant.made c.repeat.ensures cc; long = omega (arith, length-replicate (get_or ls j 0) value) }

pub returns : goal.returns
returns g c =
    let all = distributed_all c.args.lengths.now c.args.values.now c.loop-j.j c.loop-j-test.false in
    appends_same c.loop-j.invariant.made all

use Rattle.std.proofs.Common.{arith}
use Rattle.scan_kernels.proofs.NextSegment.{sum-take_more}
use Rattle.scan_kernels.specs.Indices.{HoldsEachPlaceOnce, PermuteSegments}
use Rattle.permute_kernels.proofs.Placing.{length_written, permuted_by_all, permuted_more}
use Rattle.scan_kernels.proofs.Segments.{All_segment}
use Rattle.scan_kernels.proofs.Sending.{segmented_permute_is}
use Rattle.permute_kernels.proofs.permute.scatter_each.Goals as goal

pub scatter-requires-clause-each_once : goal.scatter-requires-clause-each_once
unfolding PermuteSegments
scatter-requires-clause-each_once g c = λ κs h.
    All_segment HoldsEachPlaceOnce c.args.lengths.now c.loop-length.length-index c.loop-length.at c.args.index.now c.requires.permutation c.loop-length-test.true c.loop-length.invariant.place

pub loop-length-preserved : goal.loop-length-preserved
loop-length-preserved g c =
    let ls = c.args.lengths.now in
    let i = c.loop-length.length-index in
    let total = sum-take_more ls i c.loop-length-test.true in
    record {
      place = omega arith;
      long = length_written ls i c.loop-length.at c.args.index.now c.args.items.now c.loop-length.made c.scatter.new.made c.loop-length-test.true c.loop-length.invariant.place c.requires.total c.requires.same_length c.loop-length.invariant.long c.scatter.ensures.places;
      done = permuted_more ls i c.loop-length.at c.args.index.now c.args.items.now c.loop-length.made c.scatter.new.made c.loop-length-test.true c.loop-length.invariant.place c.requires.total c.requires.same_length c.loop-length.invariant.long c.loop-length.invariant.done c.scatter.ensures.places;
    }

pub returns : goal.returns
returns g c =
    let ls = c.args.lengths.now in
    let index = c.args.index.now in
    let items = c.args.items.now in
    let moved = permuted_by_all ls c.loop-length.length-index index items c.loop-length.made c.loop-length-test.false c.loop-length.invariant.long c.loop-length.invariant.done in
    record { permute = segmented_permute_is ls index items c.loop-length.made c.requires.permutation c.requires.total c.requires.same_length moved; places = moved }

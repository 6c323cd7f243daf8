use Rattle.std.proofs.Common.{arith, rules, sym}
use Rattle.scan_kernels.specs.Edges.{IsEdge}
use Rattle.scan_kernels.proofs.Carried.{below_set, next_place}
use Rattle.scan_kernels.proofs.edges.find_edges.Goals as goal

pub segment_of-segment-requires-clause-within : goal.segment_of-segment-requires-clause-within
segment_of-segment-requires-clause-within c =
    let next = next_place c.loop-k.k c.args.size in
    let inside = c.requires.within c.loop-k.k (omega arith) in
    omega arith

pub loop-k-preserved : goal.loop-k-preserved
loop-k-preserved c =
    let k = c.loop-k.k in
    let next = next_place k c.args.size in
    let here = c.segment_of-segment.ensures in
    record {
      begin = here.begin_is;
      behind = omega (arith, here.behind_begin);
      found = below_set (IsEdge c.args.lengths.now c.args.size) c.loop-k.edges k _ (omega arith) c.loop-k.invariant.found (record { place_is = sym next; segment = here; from_is = search rules; began_is = search rules });
    }

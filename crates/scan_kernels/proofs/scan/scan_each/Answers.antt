use Rattle.std.proofs.Common.{arith, ◌++◌, take, drop, sum, get_or, ap, subst, sym, ◌∙◌}
use Rattle.std.proofs.lemmas.List.{take_all}
use Rattle.segment_desc.specs.Appended.{Appends}
use Rattle.scan_kernels.specs.Segmented.{scanned, segmented_scan}
use Rattle.segment_desc.proofs.Appending.{appends_more}
use Rattle.scan_kernels.proofs.Scanned.{length-scanned}
use Rattle.scan_kernels.proofs.NextSegment.{sum-take_more, drop-take_more, segmented_scan-take_more}
use Rattle.scan_kernels.proofs.scan.scan_each.Goals as goal

pub loop-length-preserved : goal.loop-length-preserved
loop-length-preserved g c =
    let op = g.O.Combine.combined c.args.op in
    let u = g.O.Combine.unit_of c.args.op in
    let xs = c.args.items.now in
    let ls = c.args.lengths.now in
    let i = c.loop-length.length-index in
    let done = segmented_scan op u (take i ls) xs in
    let more = segmented_scan-take_more op u ls i xs c.loop-length-test.true in
    let segment = c.split_at.ensures.front ∙ ap (take (get_or ls i 0)) c.loop-length.invariant.rest in
    let many = length-scanned op u c.split_at.result.0.now in
    let total = sum-take_more ls i c.loop-length-test.true in
    record {
      rest = c.split_at.ensures.back ∙ ap (drop (get_or ls i 0)) c.loop-length.invariant.rest ∙ drop-take_more ls i xs c.loop-length-test.true;
      made = appends_more c.loop-length.invariant.made c.scan_segment.ensures (ap (λ ys. done ++ scanned op u ys) segment ∙ sym more);
      long = omega arith;
    }

pub returns-clause-scan : goal.returns-clause-scan
returns-clause-scan g c =
    let op = g.O.Combine.combined c.args.op in
    let u = g.O.Combine.unit_of c.args.op in
    let all = take_all c.loop-length.length-index c.args.lengths.now c.loop-length-test.false in
    subst (λ ks. Appends c.args.made.now c.loop-length.made (segmented_scan op u ks c.args.items.now)) all c.loop-length.invariant.made

pub returns-clause-rest : goal.returns-clause-rest
returns-clause-rest g c =
    let all = take_all c.loop-length.length-index c.args.lengths.now c.loop-length-test.false in
    c.loop-length.invariant.rest ∙ ap (λ ks. drop (sum ks) c.args.items.now) all

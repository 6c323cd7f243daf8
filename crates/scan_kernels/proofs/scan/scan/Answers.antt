use Rattle.std.proofs.Common.{arith, rules, ◌++◌, sum, length, drop, ap, sym, ◌∙◌, append_assoc, length-append}
use Rattle.std.proofs.lemmas.List.{length-drop}
use Rattle.std.proofs.lemmas.List.Sums.{sum_by-append}
use Rattle.std.specs.Slice.Iter.{chunks_rest}
use Rattle.scan_kernels.specs.Segmented.{segmented_scan}
use Rattle.scan_kernels.proofs.CutLists.{segmented_scan-lengths-append}
use Rattle.scan_kernels.proofs.ResultLengths.{length-segmented_scan}
use Rattle.scan_kernels.proofs.scan.scan.Goals as goal

pub loop-block-preserved : goal.loop-block-preserved
loop-block-preserved g c =
    let op = g.O.Combine.combined c.args.op in
    let u = g.O.Combine.unit_of c.args.op in
    let block = c.in-Some.block.now in
    let later = chunks_rest c.next.new.self in
    let xs = c.loop-block.rest.now in
    let steps = c.in-Some.ensures.steps in
    let parts = steps.1.0 in
    let long = ap length parts ∙ length-append block later in
    let total = ap sum parts ∙ sum_by-append (λ n. n) block later in
    let many = length-segmented_scan op u block xs (omega arith) in
    let left = ap length c.scan_block-rest.ensures.rest ∙ length-drop (sum block) xs in
    let whole = segmented_scan-lengths-append op u block later xs in
    let joined = append_assoc c.loop-block.made.items (segmented_scan op u block xs) (segmented_scan op u later (drop (sum block) xs)) in
    record {
      can_next = search rules;
      is_finite = tt;
      within = omega arith;
      made =
          ap (λ ys. c.scan_block-rest.new.made.items ++ segmented_scan op u later ys) c.scan_block-rest.ensures.rest
          ∙ ap (λ made. made ++ segmented_scan op u later (drop (sum block) xs)) c.scan_block-rest.ensures.scan.items
          ∙ joined
          ∙ ap (λ ys. c.loop-block.made.items ++ ys) (sym whole)
          ∙ ap (λ ls. c.loop-block.made.items ++ segmented_scan op u ls xs) (sym parts)
          ∙ c.loop-block.invariant.made;
      room = omega arith;
    }

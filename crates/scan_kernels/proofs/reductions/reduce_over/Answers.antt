use Rattle.std.proofs.Common.{◌≡◌, ◌+◌, ◌-◌, sum, length, take, drop, ap, sym, ◌∙◌, arith}
use Rattle.std.proofs.lemmas.List.{length-take, length-drop, take_all}
use Rattle.scan_kernels.specs.Segmented.{segmented_reduce}
use Rattle.scan_kernels.proofs.ReducedParts.{part_within, part_behind, segmented_reduce-part}
use Rattle.scan_kernels.proofs.ResultLengths.{length-segmented_reduce}
use Rattle.scan_kernels.proofs.Written.{written_next}
use Rattle.scan_kernels.proofs.reductions.reduce_over.Goals as goal

pub reduce_block_over-rest-requires-clause-within : goal.reduce_block_over-rest-requires-clause-within
reduce_block_over-rest-requires-clause-within g c κs within =
    let ls = c.args.lengths.now in
    let xs = c.args.items.now in
    let start = c.loop-start.start in
    let left = ap length c.loop-start.invariant.rest ∙ length-drop (sum (take start ls)) xs in
    let room = part_within start (c.end_of-end.result - start) (length xs) ls c.requires.within in
    omega arith

pub loop-start-preserved : goal.loop-start-preserved
loop-start-preserved g c =
    let op = g.O.Combine.combined c.args.op in
    let u = g.O.Combine.unit_of c.args.op in
    let ls = c.args.lengths.now in
    let xs = c.args.items.now in
    let start = c.loop-start.start in
    let end = c.end_of-end.result in
    let more = end - start in
    let part = c.loop-start.part in
    let old = take more (drop start part) in
    let place : start + more ≡ end = omega arith in
    let left = length-drop start part in
    let long : length old ≡ more = omega (arith, length-take more (drop start part)) in
    let row = segmented_reduce op u ls xs in
    let many = length-segmented_reduce op u ls xs in
    let is =
    c.reduce_block_over-rest.ensures.reduce
    ∙ ap (segmented_reduce op u (take more (drop start ls))) c.loop-start.invariant.rest
    ∙ sym (segmented_reduce-part op u start more ls xs)
    ∙ ap (λ k. take k (drop start row)) (sym long) in
    record {
      rest =
          c.reduce_block_over-rest.ensures.rest
          ∙ ap (drop (sum (take more (drop start ls)))) c.loop-start.invariant.rest
          ∙ part_behind start more ls xs
          ∙ ap (λ n. drop (sum (take n ls)) xs) place;
      done = written_next row part c.reduce_block_over-rest.new.part old start end (omega arith) (omega arith) (omega arith) long is c.loop-start.invariant.done;
      within = omega arith;
    }

pub returns : goal.returns
returns g c =
    let op = g.O.Combine.combined c.args.op in
    let u = g.O.Combine.unit_of c.args.op in
    let row = segmented_reduce op u c.args.lengths.now c.args.items.now in
    let many = length-segmented_reduce op u c.args.lengths.now c.args.items.now in
    sym (take_all c.loop-start.start c.loop-start.part c.loop-start-test.false) ∙ c.loop-start.invariant.done ∙ take_all c.loop-start.start row (omega arith)

use Rattle.std.proofs.Common.{arith, rules, ◌++◌, sum, length, take, drop, ap, sym, ◌∙◌, append_assoc, length-append}
use Rattle.std.proofs.lemmas.List.Sums.{sum_by-append}
use Rattle.std.specs.Slice.Iter.{chunks_rest}
use Rattle.scan_kernels.specs.Indexed.{segmented_index}
use Rattle.scan_kernels.proofs.Paired.{segmented_index-lengths-append}
use Rattle.scan_kernels.proofs.ResultLengths.{length-segmented_index}
use Rattle.scan_kernels.proofs.indices.index_each.Goals as goal

pub loop-block-preserved : goal.loop-block-preserved
loop-block-preserved g c =
    let block = c.in-Some.block.now in
    let later = chunks_rest c.next.new.self in
    let starts = c.loop-block.rest_starts.now in
    let strides = c.loop-block.rest_strides.now in
    let made = c.loop-block.made.items in
    let n = length block in
    let parts = c.in-Some.ensures.steps.1.0 in
    let long = ap length parts ∙ length-append block later in
    let total = ap sum parts ∙ sum_by-append (λ n. n) block later in
    let front = segmented_index block (take n starts) (take n strides) in
    let back = segmented_index later (drop n starts) (drop n strides) in
    let many = length-segmented_index block c.split_at.result.0.now c.split_at-in-loop-block.result.0.now (omega arith) (omega arith) in
    record {
      can_next = search rules;
      is_finite = tt;
      starts = omega arith;
      strides = omega arith;
      within = (omega arith, omega arith);
      made =
          ap (λ ys. c.index_block.new.made.items ++ segmented_index later ys c.split_at-in-loop-block.result.1.now) c.split_at.ensures.back
          ∙ ap (λ ys. c.index_block.new.made.items ++ segmented_index later (drop n starts) ys) c.split_at-in-loop-block.ensures.back
          ∙ ap (λ ys. ys ++ back) (
          c.index_block.ensures.items
          ∙ ap (λ ys. made ++ segmented_index block ys c.split_at-in-loop-block.result.0.now) c.split_at.ensures.front
          ∙ ap (λ ys. made ++ segmented_index block (take n starts) ys) c.split_at-in-loop-block.ensures.front
          )
          ∙ append_assoc made front back
          ∙ ap (λ ys. made ++ ys) (sym (segmented_index-lengths-append block later starts strides (omega arith) (omega arith)))
          ∙ ap (λ ls. made ++ segmented_index ls starts strides) (sym parts)
          ∙ c.loop-block.invariant.made;
      room = omega arith;
    }

use Rattle.std.proofs.Common.{arith, rules, ◌++◌, sum, length, take, drop, ap, sym, ◌∙◌, append_assoc, length-append}
use Rattle.std.proofs.lemmas.List.Sums.{sum_by-append}
use Rattle.std.specs.Slice.Iter.{chunks_rest}
use Rattle.scan_kernels.specs.Distributed.{distributed}
use Rattle.scan_kernels.proofs.Paired.{distributed-lengths-append}
use Rattle.scan_kernels.proofs.ResultLengths.{length-distributed}
use Rattle.scan_kernels.proofs.distribute.distribute.Goals as goal

pub loop-block-preserved : goal.loop-block-preserved
loop-block-preserved g c =
    let block = c.in-Some.block.now in
    let later = chunks_rest c.next.new.self in
    let values = c.loop-block.rest.now in
    let made = c.loop-block.made.items in
    let front = take (length block) values in
    let back = drop (length block) values in
    let parts = c.in-Some.ensures.steps.1.0 in
    let long = ap length parts ∙ length-append block later in
    let total = ap sum parts ∙ sum_by-append (λ n. n) block later in
    let front_many = ap length c.split_at.ensures.front in
    let many = length-distributed block c.split_at.result.0.now (omega arith) in
    record {
      can_next = search rules;
      is_finite = tt;
      count = omega arith;
      made =
          ap (λ ys. c.distribute_block.new.made.items ++ distributed later ys) c.split_at.ensures.back
          ∙ ap (λ ys. ys ++ distributed later back) (c.distribute_block.ensures.items ∙ ap (λ ys. made ++ distributed block ys) c.split_at.ensures.front)
          ∙ append_assoc made (distributed block front) (distributed later back)
          ∙ ap (λ ys. made ++ ys) (sym (distributed-lengths-append block later values (omega arith)))
          ∙ ap (λ ls. made ++ distributed ls values) (sym parts)
          ∙ c.loop-block.invariant.made;
      room = omega arith;
    }

use Rattle.std.proofs.Common.{sum, length, drop, map, ap, sym, ◌∙◌, arith}
use Rattle.scan_kernels.proofs.OneItem.{all_ones, sum-ones, segmented_reduce-ones}
use Rattle.scan_kernels.proofs.reductions.reduce_block_over.Goals as goal

pub split_at-requires : goal.split_at-requires
split_at-requires g c =
    let ls = c.args.lengths.now in
    let total = ap sum (all_ones ls (c.are_single.ensures.0 c.if-not-are_single.false)) ∙ sum-ones (length ls) in
    omega arith

pub returns-clause-reduce : goal.returns-clause-reduce
returns-clause-reduce g c =
    let ls = c.args.lengths.now in
    let singles = c.are_single.ensures.0 c.if-not-are_single.false in
    let total = ap sum (all_ones ls singles) ∙ sum-ones (length ls) in
    let op = g.O.Combine.combined c.args.op in
    let u = g.O.Combine.unit_of c.args.op in
    c.reduce_singles_over.ensures ∙ ap (map (op u)) c.split_at.ensures.front ∙ sym (segmented_reduce-ones op u ls c.args.items.now singles (omega arith))

pub returns-clause-rest : goal.returns-clause-rest
returns-clause-rest g c =
    let ls = c.args.lengths.now in
    let total = ap sum (all_ones ls (c.are_single.ensures.0 c.if-not-are_single.false)) ∙ sum-ones (length ls) in
    c.split_at.ensures.back ∙ ap (λ n. drop n c.args.items.now) (sym total)

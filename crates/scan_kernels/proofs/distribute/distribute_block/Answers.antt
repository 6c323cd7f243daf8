use Rattle.std.proofs.Common.{arith, sum, length, ap, sym, ◌∙◌}
use Rattle.segment_desc.proofs.Appending.{appends_same}
use Rattle.scan_kernels.proofs.OneItem.{all_ones, sum-ones}
use Rattle.scan_kernels.proofs.Paired.{distributed-ones}
use Rattle.scan_kernels.proofs.distribute.distribute_block.Goals as goal

pub append_reserved-requires : goal.append_reserved-requires
append_reserved-requires g c =
    let ls = c.args.lengths.now in
    let total = ap sum (all_ones ls (c.are_single.ensures.0 c.if-are_single.true)) ∙ sum-ones (length ls) in
    omega arith

pub returns-then-are_single : goal.returns-then-are_single
returns-then-are_single g c =
    let singles = c.are_single.ensures.0 c.if-are_single.true in
    appends_same c.append_reserved.ensures (sym (distributed-ones c.args.lengths.now c.args.values.now singles c.requires.count))

use Rattle.std.proofs.Common.{arith, sum, length, ap, sym, ◌∙◌}
use Rattle.segment_desc.proofs.Appending.{appends_same}
use Rattle.scan_kernels.proofs.OneItem.{all_ones, sum-ones}
use Rattle.scan_kernels.proofs.Paired.{segmented_index-ones}
use Rattle.scan_kernels.proofs.indices.index_block.Goals as goal

pub index_singles-requires-clause-room : goal.index_singles-requires-clause-room
index_singles-requires-clause-room c =
    let ls = c.args.lengths.now in
    let total = ap sum (all_ones ls (c.are_single.ensures.0 c.if-are_single.true)) ∙ sum-ones (length ls) in
    omega arith

pub returns-then-are_single : goal.returns-then-are_single
returns-then-are_single c =
    let singles = c.are_single.ensures.0 c.if-are_single.true in
    let each = segmented_index-ones c.args.lengths.now c.args.starts.now c.args.strides.now singles c.requires.starts c.requires.strides in
    appends_same c.index_singles.ensures (sym each)

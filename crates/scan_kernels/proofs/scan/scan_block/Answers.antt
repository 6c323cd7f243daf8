use Rattle.std.proofs.Common.{sum, length, drop, replicate, ap, sym, ◌∙◌, arith}
use Rattle.segment_desc.proofs.Appending.{appends_same}
use Rattle.scan_kernels.proofs.OneItem.{all_ones, sum-ones, segmented_scan-ones}
use Rattle.scan_kernels.proofs.scan.scan_block.Goals as goal

pub split_at-requires : goal.split_at-requires
split_at-requires g c =
    let ls = c.args.lengths.now in
    let total = ap sum (all_ones ls (c.are_single.ensures.0 c.if-not-are_single.false)) ∙ sum-ones (length ls) in
    omega arith

pub repeat-requires : goal.repeat-requires
repeat-requires g c =
    let ls = c.args.lengths.now in
    let total = ap sum (all_ones ls (c.are_single.ensures.0 c.if-not-are_single.false)) ∙ sum-ones (length ls) in
    let front = c.split_at.ensures.front_len in
    omega arith

pub returns-clause-scan : goal.returns-clause-scan
returns-clause-scan g c =
    let op = g.O.Combine.combined c.args.op in
    let u = g.O.Combine.unit_of c.args.op in
    let ls = c.args.lengths.now in
    let singles = c.are_single.ensures.0 c.if-not-are_single.false in
    let total = ap sum (all_ones ls singles) ∙ sum-ones (length ls) in
    let each = segmented_scan-ones op u ls c.args.items.now singles (omega arith) in
    let many = ap (λ n. replicate n c.unit.result) c.split_at.ensures.front_len in
    let value = ap (λ x. replicate (length ls) x) c.unit.ensures in
    appends_same c.repeat.ensures (many ∙ value ∙ sym each)

pub returns-clause-rest : goal.returns-clause-rest
returns-clause-rest g c =
    let ls = c.args.lengths.now in
    let total = ap sum (all_ones ls (c.are_single.ensures.0 c.if-not-are_single.false)) ∙ sum-ones (length ls) in
    c.split_at.ensures.back ∙ ap (λ n. drop n c.args.items.now) (sym total)

use Rattle.std.proofs.Common.{arith, ◌++◌, ◌-◌, ◌%◌, length, take, drop, ap, sym, ◌∙◌}
use Rattle.std.specs.List.{fold}
use Rattle.std.proofs.lemmas.List.{take-append-drop}
use Rattle.segment_desc.proofs.Appending.{appends_more}
use Rattle.scan_kernels.specs.Segmented.{scanned}
use Rattle.scan_kernels.proofs.Scanned.{scanned-append, length-scanned}
use Rattle.scan_kernels.proofs.scan.scan_segment.Goals as goal

pub scan_from-requires-clause-room : goal.scan_from-requires-clause-room
scan_from-requires-clause-room g c =
    let fours = c.split_at.result.0.now in
    let many = length-scanned (g.O.Combine.combined c.args.op) c.unit.result fours in
    omega arith

pub returns : goal.returns
returns g c =
    let op = g.O.Combine.combined c.args.op in
    let u = c.unit.result in
    let xs = c.args.items.now in
    let n = length xs - length xs % 4 in
    let front = take n xs in
    let back = drop n xs in
    let value = c.scan_fours-so_far.ensures.last ∙ ap (fold op u) c.split_at.ensures.front in
    appends_more c.scan_fours-so_far.ensures.scan c.scan_from.ensures (
    ap (λ ys. scanned op u ys ++ scanned op c.scan_fours-so_far.result c.split_at.result.1.now) c.split_at.ensures.front
    ∙ ap (λ ys. scanned op u front ++ scanned op c.scan_fours-so_far.result ys) c.split_at.ensures.back
    ∙ ap (λ x. scanned op u front ++ scanned op x back) value
    ∙ sym (scanned-append op u front back)
    ∙ ap (scanned op u) (take-append-drop n xs)
    ∙ ap (λ x. scanned op x xs) c.unit.ensures
    )

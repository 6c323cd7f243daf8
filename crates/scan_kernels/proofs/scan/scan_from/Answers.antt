use Rattle.std.proofs.Common.{arith, rules, take}
use Rattle.std.proofs.lemmas.List.{take_more}
use Rattle.segment_desc.proofs.Appending.{appends_more}
use Rattle.scan_kernels.proofs.Scanned.{scanned_push, fold_push}
use Rattle.scan_kernels.proofs.scan.scan_from.Goals as goal

pub loop-item-preserved : goal.loop-item-preserved
loop-item-preserved g c =
    let op = g.O.Combine.combined c.args.op in
    let u = c.args.first in
    let xs = c.args.items.now in
    let i = c.loop-item.item-index in
    let x = c.item-item.result in
    let more = take_more xs i x c.loop-item-test.true in
    let scan = scanned_push op u (take i xs) x in
    let value = fold_push op u (take i xs) x in
    record { so_far = cc; made = appends_more c.loop-item.invariant.made (record { items = c.push_reserved.ensures.items; len = search rules; capacity = c.push_reserved.ensures.capacity }) cc; long = omega arith }

use Rattle.std.proofs.Common.{arith, ◌≡◌, ◌∙◌, ◌++◌, ap, sym, take, get_or, Some, slice_get, ◌+◌, zero-add}
use Rattle.std.proofs.lemmas.List.{append-nil, drop_all, take_more, take_all}
use Rattle.scan_kernels.specs.Segmented.{scanned}
use Rattle.scan_kernels.proofs.Scanned.{fold_push, length-scanned, slice_get-scanned}
use Rattle.scan_kernels.proofs.Written.{written_more}
use Rattle.scan_kernels.proofs.scans_in_parts.write_scanned.Goals as goal

pub loop-i-preserved : goal.loop-i-preserved
loop-i-preserved g c =
    let op = g.O.Combine.combined c.args.op in
    let xs = c.args.items.now in
    let all = scanned op c.args.first xs in
    let i = c.loop-i.i in
    let x = c.index-items-i.result in
    let long = length-scanned op c.args.first xs in
    let more = take_more xs i x (omega arith) in
    let value = fold_push op c.args.first (take i xs) (get_or xs i x) in
    let there : slice_get all (0 + i) ≡ Some c.loop-i.so_far = ap (slice_get all) (zero-add i) ∙ slice_get-scanned op c.args.first xs i (omega arith) ∙ ap Some (sym c.loop-i.invariant.so_far) in
    record {
      made = written_more all c.args.part.now c.loop-i.part 0 i c.loop-i.so_far there c.loop-i-test.true (omega arith) c.loop-i.invariant.made;
      so_far = cc;
    }

pub returns : goal.returns
returns g c =
    let all = scanned (g.O.Combine.combined c.args.op) c.args.first c.args.items.now in
    let i = c.loop-i.i in
    let long = length-scanned (g.O.Combine.combined c.args.op) c.args.first c.args.items.now in
    c.loop-i.invariant.made ∙ ap (λ l. take i all ++ l) (drop_all i c.args.part.now c.loop-i-test.false) ∙ append-nil (take i all) ∙ take_all i all (omega arith)

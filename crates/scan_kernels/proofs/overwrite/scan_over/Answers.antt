use Rattle.std.proofs.Common.{◌≡◌, ◌∙◌, ◌++◌, ap, sym, take, Some, slice_get, arith}
use Rattle.std.proofs.lemmas.List.{append-nil, drop_all, take_all}
use Rattle.std.specs.List.{fold}
use Rattle.scan_kernels.specs.Segmented.{scanned}
use Rattle.scan_kernels.proofs.Scanned.{fold_push, length-scanned, slice_get-scanned}
use Rattle.scan_kernels.proofs.Written.{still_there, take_next, written_over}
use Rattle.scan_kernels.proofs.overwrite.scan_over.Goals as goal

pub loop-i-preserved : goal.loop-i-preserved
loop-i-preserved g c =
    let op = g.O.Combine.combined c.args.op in
    let u = g.O.Combine.unit_of c.args.op in
    let before = c.args.list.now in
    let after = scanned op u before in
    let i = c.loop-i.i in
    let within = c.loop-i-test.true in
    let long = length-scanned op u before in
    let item = c.index-list-i.result in
    let here = still_there after before c.loop-i.list i item within long c.loop-i.invariant.list c.index-list-i.is in
    let made : slice_get after i ≡ Some c.loop-i.so_far = slice_get-scanned op u before i within ∙ ap Some (sym c.loop-i.invariant.so_far) in
    record {
      list = written_over after before c.loop-i.list i c.loop-i.so_far made within long c.loop-i.invariant.list;
      so_far = c.combine-so_far.ensures ∙ ap (λ s. op s item) c.loop-i.invariant.so_far ∙ sym (fold_push op u (take i before) item) ∙ ap (fold op u) (sym (take_next before i item here));
    }

pub returns : goal.returns
returns g c =
    let before = c.args.list.now in
    let after = scanned (g.O.Combine.combined c.args.op) (g.O.Combine.unit_of c.args.op) before in
    let i = c.loop-i.i in
    let long = length-scanned (g.O.Combine.combined c.args.op) (g.O.Combine.unit_of c.args.op) before in
    c.loop-i.invariant.list ∙ ap (λ l. take i after ++ l) (drop_all i before c.loop-i-test.false) ∙ append-nil (take i after) ∙ take_all i after (omega arith)

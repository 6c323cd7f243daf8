use Rattle.std.proofs.Common.{arith, ◌≡◌, ◌∙◌, ◌-◌, length, sym, take, drop}
use Rattle.std.proofs.lemmas.List.{length-take, length-drop, take_all}
use Rattle.scan_kernels.proofs.Written.{written_next}
use Rattle.scan_kernels.proofs.in_order.write_in_order.Goals as goal

pub loop-start-preserved : goal.loop-start-preserved
loop-start-preserved g c =
    let row = g.R.Row.items c.args.row in
    let list = c.loop-start.list in
    let start = c.loop-start.start in
    let end = c.end_of-end.result in
    let old = take (end - start) (drop start list) in
    let rest = length-drop start list in
    let long : length old ≡ end - start = omega (arith, length-take (end - start) (drop start list)) in
    record {
      done = written_next row list c.write.new.part old start end (omega arith) (omega arith) (omega arith) long c.write.ensures c.loop-start.invariant.done;
      within = omega arith;
    }

pub returns : goal.returns
returns g c =
    let row = g.R.Row.items c.args.row in
    sym (take_all c.loop-start.start c.loop-start.list c.loop-start-test.false) ∙ c.loop-start.invariant.done ∙ take_all c.loop-start.start row (omega arith)
